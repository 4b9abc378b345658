use Rattle.std.proofs.Common.{◌<◌, arith, length, subst}
use Rattle.policy_lists.specs.Numbered.{lists_in}
use Rattle.policy_search.specs.Closed.{AreDone}
use Rattle.policy_search.specs.Places.{policies}
use Rattle.policy_search.proofs.PlaceLemmas.{grown_twice, not_grown, still_within}
use Rattle.policy_search.proofs.ReachLemmas.{all_reached, one_more_done, ordered_next}
use Rattle.policy_search.proofs.search.Search.run.Goals as goal

pub places-init : goal.places-init
places-init c = record {
  search = c.requires.search;
  grown = not_grown c.args.self.now;
  within = omega arith;
  ordered = λ _. c.requires.ordered;
  done = λ p l. absurd (omega (arith, l));
}

pub returns-then-from-len-clause-search : goal.returns-then-from-len-clause-search
returns-then-from-len-clause-search c = c.places.invariant.search

pub returns-then-from-len-clause-grown : goal.returns-then-from-len-clause-grown
returns-then-from-len-clause-grown c = c.places.invariant.grown

pub returns-then-from-len-clause-all : goal.returns-then-from-len-clause-all
returns-then-from-len-clause-all c = λ _.
    subst (AreDone c.args.wanted (policies c.args.aims.now) (lists_in c.places.self.lists)
    c.places.self.places.items) (omega
    (arith, c.if-from-len.true, c.len.ensures)) c.places.invariant.done

pub returns-then-from-len-clause-reached : goal.returns-then-from-len-clause-reached
returns-then-from-len-clause-reached c = λ _.
    let self = c.places.self in
    let some : 0 < length self.places.items =
    still_within c.args.self.now self 0 c.places.invariant.grown c.requires.some in
    all_reached c.args.wanted (policies c.args.aims.now) self c.places.invariant.search some
    (subst (AreDone c.args.wanted (policies c.args.aims.now) (lists_in self.lists)
    self.places.items) (omega (arith, c.if-from-len.true, c.len.ensures)) c.places.invariant.done)

pub visit-requires : goal.visit-requires
visit-requires c =
    let l : c.places.from < length c.places.self.places.items =
    omega (arith, c.places.invariant.within, c.if-from-len.false, c.len.ensures) in
    record { search = c.places.invariant.search; from = l; ordered = c.places.invariant.ordered l }

pub places-preserved : goal.places-preserved
places-preserved c =
    let old = c.places.self in
    let new = c.visit.new.self in
    let from = c.places.from in
    let l : from < length old.places.items =
    omega (arith, c.places.invariant.within, c.if-from-len.false, c.len.ensures) in record {
      search = c.in_ok-visit.ensures.search;
      grown = grown_twice c.args.self.now old new c.places.invariant.grown
          c.in_ok-visit.ensures.grown;
      within = omega (arith, still_within old new from c.in_ok-visit.ensures.grown l);
      ordered = λ b. ordered_next new.places.items from b c.in_ok-visit.ensures.ordered;
      done = one_more_done c.args.wanted (policies c.args.aims.now) old new from
          c.in_ok-visit.ensures.grown c.places.invariant.search l c.places.invariant.done
          c.in_ok-visit.ensures.done;
    }
