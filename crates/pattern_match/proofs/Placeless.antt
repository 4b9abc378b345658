-- Parts without places: they add nothing to the automaton of what stands before them.
use Rattle.std.proofs.Common.{◌≡◌, refl, sym, ◌∙◌, ap, ℕ, Bool, true, false, List, [], ◌∷◌, ◌++◌}
use Rattle.std.proofs.Common.{map, append-nil, arith}
use Rattle.std.specs.Prelude.{◌==◌, ◌&&◌, ◌||◌, Option, if◌then◌else◌}
use Rattle.std.proofs.lemmas.Bool.{or_right}
use Rattle.std.specs.Cmp.{first_so, second_so}
use Rattle.pattern_syntax.specs.Reading.{positions, factor}
use Rattle.pattern_syntax.specs.Tree.{Tree, Set, Nothing, Both, Either, Repeat}
use Rattle.pattern_match.specs.Automaton.{Place, Automaton, automaton, added, bare, both}
use Rattle.pattern_match.specs.Automaton.{either_automaton, followed, repeated_automaton}
use Rattle.pattern_match.specs.Passes.{holds_nothing, is_plain}
use Rattle.pattern_match.proofs.PassPlaces.{IsPlainRepeat, no_product, plain_places, plain_repeat}

-- ---- without a place

bare_repeat : (least : ℕ) (most : Option ℕ) (piece : Tree) → IsPlainRepeat least most piece
    → repeated_automaton least most (bare true) ≡ bare true
bare_repeat least most piece r =
    let c = r.count in
    let o : ((least == 0) || true) ≡ true = or_right (least == 0) true refl in
    rw c (ap bare o)

pub placeless : (t : Tree) → is_plain t ≡ true → positions t ≡ 0 → automaton t ≡ bare true
unfolding automaton
placeless (Set bytes) h e = absurd (omega arith)
placeless Nothing h e = refl
placeless (Both x y) h e =
    let a = placeless x (first_so (is_plain x) _ h) (omega arith) in
    let b = placeless y (second_so (is_plain x) _ h) (omega arith) in rw (a, b) refl
placeless (Either x y) h e =
    let a = placeless x (first_so (is_plain x) _ h) (omega arith) in
    let b = placeless y (second_so (is_plain x) _ h) (omega arith) in rw (a, b) refl
placeless (Repeat least most piece) h e =
    let r = plain_repeat least most piece h in
    let a = placeless piece r.piece_plain
    (no_product (positions piece) (factor least most) r.some e) in
    rw a (bare_repeat least most piece r)

-- ---- behind another part

same_list : (next : List ℕ) → added next [] ≡ next
same_list [] = refl
same_list (n ∷ ns) = append-nil (n ∷ ns)

by_last : (last : Bool) (next : List ℕ) → (if last then added next [] else next) ≡ next
by_last true next = same_list next
by_last false next = refl

and_true : (v : Bool) → (v && true) ≡ v
and_true true = refl
and_true false = refl

place_alone : (p : Place) → followed true [] p ≡ p
place_alone p = λ i. record {
  bytes = p.bytes;
  is_last = and_true p.is_last i;
  next = by_last p.is_last p.next i;
}

places_alone : (ps : List Place) → map (followed true []) ps ≡ ps
places_alone [] = refl
places_alone (p ∷ ps) = λ i. place_alone p i ∷ places_alone ps i

by_empty : (v : Bool) (first : List ℕ) → (if v then first ++ [] else first) ≡ first
by_empty true first = append-nil first
by_empty false first = refl

pub both_alone : (a : Automaton) → a.is_live ≡ true → both a (bare true) ≡ a
both_alone a l = rw l (λ i. record {
  places = (append-nil (map (followed true []) a.places) ∙ places_alone a.places) i;
  first = by_empty a.holds_empty a.first i;
  holds_empty = and_true a.holds_empty i;
  is_live = true;
})

pub either_alone : (a : Automaton) → a.is_live ≡ true → a.holds_empty ≡ true
    → either_automaton a (bare true) ≡ a
either_alone a l h = λ i. record {
  places = append-nil a.places i;
  first = append-nil a.first i;
  holds_empty = (or_right a.holds_empty true refl ∙ sym h) i;
  is_live = (or_right a.is_live true refl ∙ sym l) i;
}

pub both_left : (x y : Tree) → is_plain x ≡ true → is_plain y ≡ true → positions y ≡ 0
    → automaton x ≡ automaton (Both x y)
unfolding automaton
both_left x y p q e =
    sym (ap (both (automaton x)) (placeless y q e)
    ∙ both_alone (automaton x) (plain_places x p).1)

pub either_left : (x y : Tree) → is_plain x ≡ true → is_plain y ≡ true → positions y ≡ 0
    → holds_nothing x ≡ true → automaton x ≡ automaton (Either x y)
unfolding automaton
either_left x y p q e h =
    let r = plain_places x p in
    sym (ap (either_automaton (automaton x)) (placeless y q e)
    ∙ either_alone (automaton x) r.1 (r.2 ∙ h))
