-- A search that went on from all its places has every text of a path.
use Rattle.std.proofs.Common.{◌≡◌, ◌∙◌, sym, refl, ap, subst, ℕ, zero, suc, ◌+◌, ◌<◌, ◌≤◌, inl, inr}
use Rattle.std.proofs.Common.{List, [], ◌∷◌, ◌++◌, length, length-append, append_assoc, Option}
use Rattle.std.proofs.Common.{Some, None, arith}
use Rattle.pattern_match.specs.Onwards.{AreTextBytes}
use Rattle.policy_lists.specs.Numbered.{AreFurther, NodeList, list_at, lists_in}
use Rattle.policy_search.specs.Closed.{AreDone, AreOrdered, HasGrown, IsDone, IsDropped, Reaches}
use Rattle.policy_search.specs.Places.{ArePlaces, IsAt, IsFirst, IsSearch, Policies, place_at}
use Rattle.policy_search.specs.Stages.{next_stage, stage_behind}
use Rattle.policy_search.specs.declared.place.Place.{Place}
use Rattle.policy_search.specs.declared.search.Search.{Search}
use Rattle.policy_search.specs.declared.search.Wanted.{Wanted}
use Rattle.policy_search.specs.declared.search.Wanted.TheVariants.{All, Different, First}
use Rattle.policy_search.specs.declared.stage.Stage.{Stage}
use Rattle.policy_search.specs.declared.stage.Stage.TheVariants.{Empty}
use Rattle.policy_search.proofs.PlaceLemmas.{HasLists, goes_grown, list_kept, lists_of_place}
use Rattle.policy_search.proofs.PlaceLemmas.{same_place, stage_snoc, still_within}
use Rattle.spec_match.proofs.ChainLemmas.{before_or_last}

dropped_kept : (wanted : Wanted) (old new : List NodeList) (place : Place) → AreFurther old new
    → HasLists old place → IsDropped wanted old place → IsDropped wanted new place
dropped_kept All old new place m w h = h
dropped_kept Different old new place m w h = h
dropped_kept First old new place m w h = list_kept old new place.first m w.first ∙ h

pub done_grown : (wanted : Wanted) (ps : Policies) (old new : Search) (p : ℕ) → HasGrown old new
    → IsSearch ps old → p < length old.places.items
    → IsDone wanted ps (lists_in old.lists) old.places.items (place_at old.places.items p)
    → IsDone wanted ps (lists_in new.lists) new.places.items (place_at new.places.items p)
done_grown wanted ps old new p g s l (inl dropped) =
    inl (subst (IsDropped wanted (lists_in new.lists)) (sym (same_place old new p g l))
    (dropped_kept wanted (lists_in old.lists) (lists_in new.lists) (place_at old.places.items p)
    g.lists
    (lists_of_place ps (lists_in old.lists) old.places.items old.keys p s.places l) dropped))
done_grown wanted ps old new p g s l (inr all) =
    inr (λ byte some below. goes_grown ps old new p byte g s l (all byte some below))

pub one_more_done : (wanted : Wanted) (ps : Policies) (old new : Search) (from : ℕ)
    → HasGrown old new → IsSearch ps old → from < length old.places.items
    → AreDone wanted ps (lists_in old.lists) old.places.items from
    → IsDone wanted ps (lists_in new.lists) new.places.items (place_at new.places.items from)
    → AreDone wanted ps (lists_in new.lists) new.places.items (from + 1)
one_more_done wanted ps old new from g s l all this p below =
    elim (before_or_last p from below) [
      | inl before ↦ done_grown wanted ps old new p g s (omega (arith, before, l)) (all p before)
      | inr here ↦ subst (λ n. IsDone wanted ps (lists_in new.lists) new.places.items
          (place_at new.places.items n)) here this
    ]

pub ordered_next : (places : List Place) (from : ℕ) → from + 1 < length places
    → AreOrdered places from → AreOrdered places (from + 1)
ordered_next places from l h = record {
  rising = h.rising;
  near = λ q b.
      let up = h.rising from (from + 1) (omega arith) l in omega (arith, h.near q b, up);
}

pub first_at : (ps : Policies) (lists : List NodeList) (places : List Place)
    (rows : List (List ℕ)) → ArePlaces ps lists places rows → 0 < length places
    → IsFirst ps lists (place_at places 0)
first_at ps lists places rows h l = elim (h.each 0 l).reached [
  | inl first ↦ first
  | inr next ↦ absurd (omega (arith, next.before))
]

nothing_behind : (text : List ℕ) (stage : Option Stage) → stage ≡ None
    → stage_behind stage text ≡ None
nothing_behind text None e = refl
nothing_behind text (Some s) e = cc

reaches_from : (wanted : Wanted) (ps : Policies) (lists : List NodeList) (places : List Place)
    (rows : List (List ℕ)) (rest front : List ℕ) (p : ℕ) → ArePlaces ps lists places rows
    → AreDone wanted ps lists places (length places) → p < length places
    → IsAt ps lists (place_at places p) front → (place_at places p).depth ≤ length front
    → AreTextBytes rest → (stage_behind (Some (place_at places p).stage) rest ≡ None → ⊥)
    → Reaches wanted ps lists places (front ++ rest)
reaches_from wanted ps lists places rows [] front p h done l at depth bytes alive = record {
  front = front;
  rest = [];
  whole = refl;
  number = p;
  within = l;
  depth = depth;
  at = at;
  stops = inl refl;
}
reaches_from wanted ps lists places rows (b ∷ rest) front p h done l at depth bytes alive =
    elim (done p l) [
      | inl dropped ↦ record {
        front = front;
        rest = b ∷ rest;
        whole = refl;
        number = p;
        within = l;
        depth = depth;
        at = at;
        stops = inr dropped;
      }
      | inr all ↦ elim (all b bytes.0 bytes.1) [
        | inl none ↦ absurd (alive (nothing_behind rest
            (next_stage (place_at places p).stage b) none))
        | inr goes ↦ (
            let next = goes.leads front at in
            let stage : next_stage (place_at places p).stage b
            ≡ Some (place_at places goes.number).stage =
            sym (stage_snoc (Some Empty) front b (place_at places p).stage
            (next_stage (place_at places p).stage b) at.stage refl) ∙ next.stage in
            subst (Reaches wanted ps lists places) (append_assoc front (b ∷ []) rest)
            (reaches_from wanted ps lists places rows rest (front ++ b ∷ []) goes.number h done
            goes.within next
            (omega (arith, goes.depth, depth, length-append front (b ∷ [])))
            bytes.2
            (λ e. alive (ap (λ s. stage_behind s rest) stage ∙ e)))
            )
      ]
    ]

pub all_reached : (wanted : Wanted) (ps : Policies) (s : Search) → IsSearch ps s
    → 0 < length s.places.items
    → AreDone wanted ps (lists_in s.lists) s.places.items (length s.places.items)
    → (text : List ℕ) → AreTextBytes text → (stage_behind (Some Empty) text ≡ None → ⊥)
    → Reaches wanted ps (lists_in s.lists) s.places.items text
all_reached wanted ps s h some done text bytes alive =
    let first = first_at ps (lists_in s.lists) s.places.items s.keys h.places some in
    let empty = first.at.stage in
    reaches_from wanted ps (lists_in s.lists) s.places.items s.keys text [] 0 h.places done some
    first.at (omega (arith, first.depth)) bytes
    (λ e. alive (ap (λ o. stage_behind o text) empty ∙ e))
