use Rattle.std.proofs.Common.{◌≡◌, ◌∙◌, ◌+◌, Some, ap, inr, refl, subst, sym}
use Rattle.std.proofs.lemmas.List.{get_or_default}
use Rattle.policy_lists.specs.Numbered.{AreFurther, AreLists, lists_in}
use Rattle.policy_lists.specs.declared.numbered.Lists.{Lists}
use Rattle.policy_search.specs.Closed.{GoesOn}
use Rattle.policy_search.specs.Places.{ArePlaces, PlaceLeadsTo, first_place, place_at, policies}
use Rattle.policy_search.specs.Stages.{next_stage}
use Rattle.policy_search.specs.declared.place.Place.{Place}
use Rattle.policy_search.proofs.PlaceLemmas.{HasGone, HasLists, gone_on, lists_of_place, lists_on}
use Rattle.policy_search.proofs.PlaceLemmas.{place_leads, place_within, places_further}
use Rattle.policy_search.proofs.search.Search.go_by.Goals as goal

abbrev next_place : goal.In_ok-reach → Place
next_place c = record {
  stage = c.in-Some.stage;
  first = c.in_ok-first.first;
  second = c.in_ok-second.second;
  parent = c.args.from;
  byte = c.args.byte;
  depth = c.index-place.result.now.depth + 1;
}

here : (c : goal.In_ok-reach)
    → c.index-place.result.now ≡ place_at c.args.self.now.places.items c.args.from
here c =
    c.index-place.ensures
    ∙ sym (get_or_default c.args.self.now.places.items c.args.from first_place
    c.index-place.result.now c.requires.from)

stage_is : (c : goal.In_ok-reach)
    → next_stage c.index-place.result.now.stage c.args.byte ≡ Some c.in-Some.stage
stage_is c = sym c.next.ensures ∙ c.in-Some.is

has_lists : (c : goal.In_ok-reach) → HasLists (lists_in c.args.self.now.lists)
    c.index-place.result.now
has_lists c =
    subst (HasLists (lists_in c.args.self.now.lists)) (sym (here c))
    (lists_of_place (policies c.args.aims.now) (lists_in c.args.self.now.lists)
    c.args.self.now.places.items c.args.self.now.keys c.args.from c.requires.search.places
    c.requires.from)

further : (c : goal.In_ok-reach) → AreFurther (lists_in c.args.self.now.lists)
    (lists_in c.step-2.new.self)
further c =
    lists_on (policies c.args.aims.now) (lists_in c.args.self.now.lists)
    (lists_in c.step.new.self) (lists_in c.step-2.new.self) c.index-place.result.now
    (next_place c) c.args.byte (stage_is c) (has_lists c) c.in_ok-first.ensures.led
    c.in_ok-second.ensures.led

gone : (c : goal.In_ok-reach) → HasGone (policies c.args.aims.now) (lists_in c.step-2.new.self)
    c.args.self.now.places.items c.reach.new.self.places.items c.reach.new.self.keys c.args.from
    c.args.byte
gone c =
    let ps = policies c.args.aims.now in
    let self = c.args.self.now in
    let old = lists_in self.lists in
    let mid = lists_in c.step.new.self in
    let new = lists_in c.step-2.new.self in
    let place = c.index-place.result.now in
    gone_on ps new self.places.items self.keys c.args.from c.args.byte (next_place c)
    (places_further ps old new self.places.items self.keys (further c) c.requires.search.places)
    c.requires.from c.requires.ordered
    (place_within ps old mid new place (next_place c) c.args.byte (stage_is c) (has_lists c)
    c.in_ok-first.ensures.led c.in_ok-second.ensures.led) refl refl
    (ap (λ (x : Place). x.depth + 1) (here c))
    (subst (λ (x : Place). PlaceLeadsTo ps new c.args.byte x (next_place c)) (here c)
    (place_leads ps old mid new place (next_place c) c.args.byte (stage_is c) (has_lists c)
    c.in_ok-first.ensures.led c.in_ok-second.ensures.led))
    c.reach.new.self.places.items c.reach.new.self.keys c.in_ok-reach.ensures.reached

pub returns-clause-search : goal.returns-clause-search
returns-clause-search c = record {
  lists = subst (AreLists c.args.aims.now.lines.now) (sym c.reach.ensures.lists)
      c.in_ok-second.ensures.lists;
  places = subst (λ (l : Lists). ArePlaces (policies c.args.aims.now) (lists_in l)
      c.reach.new.self.places.items c.reach.new.self.keys) (sym c.reach.ensures.lists)
      (gone c).right;
}

pub returns-clause-ordered : goal.returns-clause-ordered
returns-clause-ordered c = (gone c).ordered

pub returns-clause-grown : goal.returns-clause-grown
returns-clause-grown c = record {
  lists = subst (λ (l : Lists). AreFurther (lists_in c.args.self.now.lists) (lists_in l))
      (sym c.reach.ensures.lists) (further c);
  more = (gone c).more;
  places = (gone c).grown;
}

pub returns-clause-goes : goal.returns-clause-goes
returns-clause-goes c =
    subst (λ (l : Lists). GoesOn (policies c.args.aims.now) (lists_in l)
    c.reach.new.self.places.items c.args.byte (place_at c.reach.new.self.places.items c.args.from))
    (sym c.reach.ensures.lists) (inr (gone c).leads)
