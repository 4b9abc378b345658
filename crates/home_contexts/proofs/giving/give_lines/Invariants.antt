use Rattle.std.proofs.Common.{drop}
use Rattle.home_contexts.specs.Homes.{given_to}
use Rattle.home_contexts.specs.Making.{chosen, fields_in}
use Rattle.home_contexts.proofs.Going.{IsGoing}
use Rattle.home_contexts.proofs.giving.give_lines.Given as goal

abbrev pub invariant-users : goal.invariant-users
invariant-users l =
    IsGoing l.fn.giving.made l.giving.made
    (given_to (chosen l.all l.by.firsts.now l.by.users.now) l.of.number (fields_in l.of))
    (given_to (chosen l.all (drop l.i l.by.firsts.now) (drop l.i l.by.users.now)) l.of.number
    (fields_in l.of))
