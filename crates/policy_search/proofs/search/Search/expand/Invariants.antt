use Rattle.std.proofs.Common.{ℕ, ◌<◌}
use Rattle.policy_lists.specs.Numbered.{lists_in}
use Rattle.policy_search.specs.Closed.{AreOrdered, GoesOn, HasGrown}
use Rattle.policy_search.specs.Places.{IsSearch, place_at, policies}
use Rattle.policy_search.proofs.search.Search.expand.Given as goal

abbrev pub invariant-bytes : goal.invariant-bytes
invariant-bytes l = record {
  search : IsSearch (policies l.aims) l.self;
  ordered : AreOrdered l.self.places.items l.from;
  grown : HasGrown l.fn.self l.self;
  goes : (byte : ℕ) → 0 < byte → byte < l.i → GoesOn (policies l.aims) (lists_in l.self.lists)
      l.self.places.items byte (place_at l.self.places.items l.from);
}
