use Rattle.spec_match.specs.StatesFor.{patterns_of}
use Rattle.spec_match.proofs.AliveLemmas.{IsStepped}
use Rattle.spec_match.proofs.carrying.go_on.Given as goal

abbrev pub invariant-alive : goal.invariant-alive
invariant-alive l = IsStepped (patterns_of l.rules) l.text l.from l.to l.k
