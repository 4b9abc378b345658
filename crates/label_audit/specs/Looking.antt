-- What the entries of a walk are looked up with.
use Rattle.std.specs.Prelude.{◌≡◌}
use Rattle.dir_digest.specs.Listings.{basis_in}
use Rattle.spec_match.specs.Scratches.{IsScratchOf}
use Rattle.relabel_core.specs.DigestBasis.{basis_by}
use Rattle.relabel_core.specs.Walk.{Walk}
use Rattle.label_audit.specs.Winners.{AreWinnersKept}
use Rattle.label_audit.specs.declared.looking.LookUps.{LookUps}

-- what is looked up with these is right
pub record AreReady (w : Walk) (lookups : LookUps) : Type 0 where
  pub listings : basis_in lookups.listings ≡ basis_by w.rules w.options
  pub own : IsScratchOf w.rules.rules lookups.buffers.scratch
  pub winners : AreWinnersKept w lookups.winners
