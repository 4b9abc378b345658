use Rattle.std.proofs.Common.{◌≤◌, length}
use Rattle.file_paths.specs.Path.{Path}
use Rattle.spec_match.specs.Carrying.{IsAliveAt}
use Rattle.spec_match.proofs.RelevantLemmas.{IsTried, low_at}
use Rattle.spec_match.proofs.carrying.relevant_members.Given as goal

abbrev pub invariant-alive : goal.invariant-alive
invariant-alive l = record {
  within : l.left ≤ length l.from;
  tried : (path : Path) → IsAliveAt l.rules l.is_root l.from path
      → IsTried path l.rules (low_at l.from l.left) l.found.items;
}

abbrev pub decreases-alive : goal.decreases-alive
decreases-alive l = l.left
