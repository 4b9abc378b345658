-- How far one has looked ahead for labels that change.
use Rattle.std.specs.Prelude.{◌≡◌, ℕ, ◌<◌, ◌≤◌, false}
use Rattle.relabel_core.specs.Swept.{SkipEndsAt}
use Rattle.relabel_core.specs.Walk.{Walk, is_changed_name}
use Rattle.label_audit.specs.declared.ahead.Ahead.{Ahead}

-- from the entry d on no name of a group whose label changes was met
pub record IsAhead (w : Walk) (d : ℕ) (ahead : Ahead) : Type 0 where
  pub covers : SkipEndsAt w ahead.clear.entry ahead.clear.end
  pub clear : (e : ℕ) → d ≤ e → e < ahead.clear.entry → is_changed_name w e ≡ false
