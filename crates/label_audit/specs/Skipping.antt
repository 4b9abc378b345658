-- What is found of an entry as a directory, and what is skipped behind it.
use Rattle.std.specs.Prelude.{◌≡◌, ℕ, ◌+◌}
use Rattle.relabel_core.specs.Swept.{SkipEndsAt, renewal, skip_of}
use Rattle.relabel_core.specs.Walk.{Walk}
use Rattle.label_audit.specs.declared.skipping.Skipped.{Skipped}

-- what is found of an entry as a directory
pub record IsSkipped (w : Walk) (e : ℕ) (found : Skipped) : Type 0 where
  pub skip_is : found.skip ≡ skip_of w e
  pub renewed_is : found.renewed ≡ renewal w e
  pub covers : SkipEndsAt w (e + 1) found.end
