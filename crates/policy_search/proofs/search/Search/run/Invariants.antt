use Rattle.std.proofs.Common.{◌<◌, ◌≤◌, length}
use Rattle.policy_lists.specs.Numbered.{lists_in}
use Rattle.policy_search.specs.Closed.{AreDone, AreOrdered, HasGrown}
use Rattle.policy_search.specs.Places.{IsSearch, policies}
use Rattle.policy_search.proofs.search.Search.run.Given as goal

abbrev pub invariant-places : goal.invariant-places
invariant-places l = record {
  search : IsSearch (policies l.aims) l.self;
  grown : HasGrown l.fn.self l.self;
  within : l.from ≤ length l.self.places.items;
  ordered : l.from < length l.self.places.items → AreOrdered l.self.places.items l.from;
  done : AreDone l.wanted (policies l.aims) (lists_in l.self.lists) l.self.places.items l.from;
}
