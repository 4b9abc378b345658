use Rattle.std.proofs.Common.{◌+◌, ◌≤◌, length}
use Rattle.label_base.specs.Lines.{lines_of}
use Rattle.home_contexts.specs.Homes.{given_from, given_lines}
use Rattle.home_contexts.proofs.Going.{IsGoing}
use Rattle.home_contexts.proofs.expansion.give_all.Given as goal

abbrev pub invariant-lines : goal.invariant-lines
invariant-lines l = record {
  going : IsGoing l.fn.giving.made l.giving.made (given_lines l.template l.by.users.now)
      (given_from l.by.users.now (l.number + 1) (lines_of l.left));
  count : l.number + length l.left ≤ length l.template;
}

abbrev pub decreases-lines : goal.decreases-lines
decreases-lines l = length l.left
