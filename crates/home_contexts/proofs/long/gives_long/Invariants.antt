use Rattle.std.proofs.Common.{◌≡◌, ℕ, length}
use Rattle.std.specs.List.{list_any}
use Rattle.label_base.specs.Lines.{lines_of}
use Rattle.home_contexts.specs.Homes.{given_from, given_lines, is_long}
use Rattle.home_contexts.proofs.long.gives_long.Given as goal

abbrev pub invariant-lines : goal.invariant-lines
invariant-lines l = (number : ℕ) × (list_any is_long (given_lines l.template l.users) ≡ list_any
    is_long (given_from l.users number (lines_of l.left)))

abbrev pub decreases-lines : goal.decreases-lines
decreases-lines l = length l.left
