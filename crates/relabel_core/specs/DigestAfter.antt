-- What contracts see of a digest after a walk.
use Rattle.std.specs.Prelude.{ℕ, Bool, true, false, List, Option, Some, None}
use Rattle.dir_digest.specs.Digest.{void_digest}
use Rattle.relabel_core.specs.declared.after.DigestAfter.{DigestAfter}
use Rattle.relabel_core.specs.declared.after.DigestAfter.TheVariants.{Stays, Void, Anew}

-- the digest after the walk, where this one is stored before
abbrev pub digest_seen : DigestAfter → Option (List ℕ) → Option (List ℕ)
digest_seen Stays stored = stored
digest_seen Void stored = Some void_digest
digest_seen (Anew digest) stored = Some digest

abbrev pub void_if : Bool → DigestAfter
void_if true = Void
void_if false = Stays

-- what becomes of a digest of which it is known which one is made anew, and whether the void one
-- stands for it else
abbrev pub after_by : Option (List ℕ) → Bool → DigestAfter
after_by None is_void = void_if is_void
after_by (Some digest) is_void = Anew digest
