use Rattle.std.proofs.Common.{[], arith, refl, subst, sym}
use Rattle.policy_lists.specs.Lists.{IsListOf}
use Rattle.policy_lists.specs.Numbered.{AreLists, lists_in}
use Rattle.policy_lists.specs.declared.numbered.Lists.{Lists}
use Rattle.policy_search.specs.Places.{ArePlaces, IsReached, policies}
use Rattle.policy_search.specs.declared.place.Place.{Place}
use Rattle.policy_search.specs.declared.stage.Stage.TheVariants.{Empty}
use Rattle.policy_search.proofs.PlaceLemmas.{HasBegun, begun, list_kept, lists_longer}
use Rattle.policy_search.proofs.search.Search.new.Goals as goal

abbrev first_of : goal.In_ok-reach → Place
first_of c = record {
  stage = Empty;
  first = c.in_ok-first.first;
  second = c.in_ok-second.second;
  parent = 0;
  byte = 0;
  depth = 0;
}

has_begun : (c : goal.In_ok-reach) → HasBegun (policies c.args.aims.now)
    (lists_in c.start-2.new.self) c.reach.new.self.places.items c.reach.new.self.keys
has_begun c =
    let ps = policies c.args.aims.now in
    let mid = lists_in c.start.new.self in
    let new = lists_in c.start-2.new.self in
    let one = c.in_ok-first.ensures.started in
    let two = c.in_ok-second.ensures.started in
    let reached = subst (λ keys. IsReached keys c.reach.new.self.keys []
    c.reach.new.self.places.items (first_of c)) c.new-2.ensures
    (subst (λ places. IsReached c.new-2.result c.reach.new.self.keys places
    c.reach.new.self.places.items (first_of c)) c.new-3.ensures.items
    c.in_ok-reach.ensures.reached) in
    begun ps new c.reach.new.self.places.items c.reach.new.self.keys (first_of c)
    (record {
      first = omega (arith, one.within, lists_longer mid new two.further);
      second = two.within;
    })
    (record {
      stage = refl;
      first = subst (IsListOf ps.lines ps.first [])
          (sym (list_kept mid new c.in_ok-first.first two.further one.within)) one.list;
      second = two.list;
    }) refl reached

pub returns-clause-search : goal.returns-clause-search
returns-clause-search c = record {
  lists = subst (AreLists c.args.aims.now.lines.now) (sym c.reach.ensures.lists)
      c.in_ok-second.ensures.lists;
  places = subst (λ (l : Lists). ArePlaces (policies c.args.aims.now) (lists_in l)
      c.reach.new.self.places.items c.reach.new.self.keys) (sym c.reach.ensures.lists)
      (has_begun c).right;
}

pub returns-clause-some : goal.returns-clause-some
returns-clause-some c = (has_begun c).some

pub returns-clause-ordered : goal.returns-clause-ordered
returns-clause-ordered c = (has_begun c).ordered
