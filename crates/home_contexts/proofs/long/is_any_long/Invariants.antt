use Rattle.std.proofs.Common.{◌≡◌, ◌∷◌, ℕ, drop}
use Rattle.std.specs.List.{list_any}
use Rattle.std.specs.Option.{option_copied}
use Rattle.label_base.specs.Lines.{fields_left}
use Rattle.home_contexts.specs.Homes.{given_to, is_long}
use Rattle.home_contexts.specs.Making.{chosen}
use Rattle.home_contexts.proofs.long.is_any_long.Given as goal

abbrev pub invariant-users : goal.invariant-users
invariant-users l = (number : ℕ)
    → list_any is_long (given_to (chosen l.all l.flags l.users) number (l.first ∷ fields_left
    (option_copied l.more)))
    ≡ list_any is_long (given_to (chosen l.all (drop l.i l.flags) (drop l.i l.users)) number
    (l.first ∷ fields_left (option_copied l.more)))
