-- The winners of groups, and what is kept of them.
use Rattle.std.specs.Prelude.{◌≡◌, ℕ, Some, None, option_and_then, IfSome, if◌then◌else◌}
use Rattle.std.specs.BTreeMap.{BTreeMap, get}
use Rattle.std.specs.Ordering.{nat_cmp}
use Rattle.relabel_core.specs.Walk.{Walk, deciding, is_wanted, winner}
use Rattle.label_audit.specs.declared.winners.Winner.{Winner}

-- the winner of a group, and what decides it
pub record IsWinner (w : Walk) (g : ℕ) (found : Winner) : Type 0 where
  pub name_is : found.name ≡ winner w g
  pub decided_is : found.decided ≡ option_and_then (deciding w) (winner w g)

abbrev pub no_winner : Winner
no_winner = record { name = None; decided = None }

-- the entry, where a context is decided for it
abbrev pub winner_if : Walk → ℕ → Winner
winner_if w e =
    if is_wanted w e then record { name = Some e; decided = deciding w e } else no_winner

-- what is kept of groups is right
abbrev pub AreWinnersKept : Walk → BTreeMap ℕ Winner → Type 0
AreWinnersKept w kept = (g : ℕ) → IfSome (get nat_cmp kept g) (IsWinner w g)
