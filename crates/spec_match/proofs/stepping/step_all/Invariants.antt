use Rattle.std.proofs.Common.{◌∷◌, [], ◌≡◌}
use Rattle.spec_match.specs.Alive.{alive_list}
use Rattle.spec_match.specs.StatesFor.{AreStatesFor, patterns_of}
use Rattle.spec_match.proofs.AliveLemmas.{IsStepped}
use Rattle.spec_match.proofs.stepping.step_all.Given as goal

abbrev pub invariant-alive : goal.invariant-alive
invariant-alive l = record {
  states : AreStatesFor (patterns_of l.rules) l.states;
  lists : l.lists.lists ≡ l.fn.lists.lists;
  stepped : IsStepped (patterns_of l.rules) (l.step.byte ∷ [])
      (alive_list l.fn.lists.lists l.step.from)
      l.lists.draft l.k;
}
