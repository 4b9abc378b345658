-- What is known of one entry of a walk.
use Rattle.std.specs.Prelude.{◌≡◌, ℕ, ◌<◌, Option, option_and_then}
use Rattle.relabel_core.specs.Swept.{skip_of}
use Rattle.relabel_core.specs.Walk.{Walk, walk_count, deciding, group_winner}
use Rattle.relabel_core.specs.declared.swept.Skip.{Skip}

-- whether it is skipped, what decides it, its group's winner, and what decides that
pub record IsEntryKnown (w : Walk) (e : ℕ) (skip : Skip) (decided winner winning : Option ℕ)
    : Type 0 where
  pub inside : e < walk_count w
  pub skip_is : skip ≡ skip_of w e
  pub decided_is : decided ≡ deciding w e
  pub winner_is : winner ≡ group_winner w e
  pub winning_is : winning ≡ option_and_then (deciding w) winner
