-- Segments: parts of a pattern one behind the other, in turn, by choice and repeated.
use Rattle.std.proofs.Common.{◌≡◌, refl, sym, ◌∙◌, ap, subst, ℕ, ◌+◌, ◌-◌, ◌*◌, ◌%◌, ◌^◌, ◌<◌, ◌≤◌}
use Rattle.std.proofs.Common.{◌==◌, Bool, true, false, List, [], ◌∷◌, ◌++◌, length, map, get_or}
use Rattle.std.proofs.Common.{◌⊎◌, inl, inr, arith, length-append}
use Rattle.std.specs.Prelude.{◌||◌, ◌&&◌, if◌then◌else◌}
use Rattle.std.proofs.lemmas.Bool.{cases_lt, or_cases}
use Rattle.std.proofs.lemmas.List.{length-map, map-append}
use Rattle.std.specs.Cmp.{second_so}
use Rattle.std.specs.Int.{bit_at}
use Rattle.std.proofs.lemmas.Nat.Bits.{bit_at-zero, bit_at_above}
use Rattle.pattern_match.specs.Automaton.{Place, Automaton, moved, up, followed, in_turn, bare}
use Rattle.pattern_match.specs.Automaton.{both_live, either_automaton, copy_before, looped}
use Rattle.pattern_match.specs.Segments.{in_word, among, ArePlacesWritten, IsSegment}
use Rattle.pattern_match.proofs.Copies.{up_up, moved_moved}
use Rattle.pattern_match.proofs.SegmentWords.{among_append, moved_word, word_above, word_below}
use Rattle.pattern_match.proofs.SegmentPlaces.{no_truth, written_append, places_followed}
use Rattle.pattern_match.proofs.SegmentPlaces.{places_stay, places_moved}

-- the bits of a second word stand from a place on
pub past : (word n : ℕ) → ((p : ℕ) → in_word word p ≡ true → n ≤ p) → (p : ℕ) → p < n
    → in_word word p ≡ false
past word n h p l = no_truth (in_word word p) (λ t. let a : n ≤ p = h p t in omega arith)

pub before : (word n : ℕ) → ((p : ℕ) → in_word word p ≡ true → p < n) → (p : ℕ) → n ≤ p
    → in_word word p ≡ false
before word n h p l = no_truth (in_word word p) (λ t. let a : p < n = h p t in omega arith)

pub no_left : (v w : Bool) → v ≡ false → (v || w) ≡ w
no_left v w e = rw e refl

pub no_right : (v w x : Bool) → w ≡ false → (v || (x && w)) ≡ v
no_right true w x e = refl
no_right false w true e = e
no_right false w false e = refl

pub no_first : (v w x : Bool) → w ≡ false → (v || (w && x)) ≡ v
no_first true w x e = refl
no_first false w x e = rw e refl

map_both : (f g : Place → Place) (places : List Place) → map (λ place. g (f place)) places
    ≡ map g (map f places)
map_both f g [] = refl
map_both f g (x ∷ xs) = ap (λ ys. g (f x) ∷ ys) (map_both f g xs)

-- what one part and another in turn have in common: their places, the one's linked to the other's
-- first
turned : (rows new : List ℕ) (bytes : List (List ℕ)) (start middle first last second later ends : ℕ)
    (stops stops_too live live_too : Bool) (a b : Automaton) →
    middle ≡ start + length a.places →
    ((p k : ℕ) → in_word (get_or new p 0) k
    ≡ (in_word (get_or rows p 0) k || (in_word last p && in_word second k))) →
    ((p : ℕ) → in_word ends p ≡ (in_word later p || (stops_too && in_word last p))) →
    IsSegment rows bytes start first last stops live a → IsSegment rows bytes middle second later
    stops_too live_too b →
    ArePlacesWritten new ends bytes start (map (moved start) (in_turn a b))
turned rows new bytes start middle first last second later ends stops stops_too live live_too a b m
    h e p q =
    subst (ArePlacesWritten new ends bytes start)
    (sym (map-append (moved start)
    (map (followed b.holds_empty (up (length a.places) b.first)) a.places)
    (map (moved (length a.places)) b.places)))
    (written_append new ends bytes start middle
    (map (moved start) (map (followed b.holds_empty (up (length a.places) b.first)) a.places))
    (map (moved start) (map (moved (length a.places)) b.places))
    (m ∙ ap (λ n. start + n)
    (sym (length-map (map (followed b.holds_empty (up (length a.places) b.first)) a.places)
    (moved start)
    ∙ length-map a.places (followed b.holds_empty (up (length a.places) b.first)))))
    front behind)
  where
    front : ArePlacesWritten new ends bytes start
        (map (moved start) (map (followed b.holds_empty (up (length a.places) b.first)) a.places))
    front = places_followed rows new bytes start (length a.places) second last ends b.holds_empty
        a.places b.first
        (λ k l. q.begins k l ∙ ap (λ n. among (up n b.first) k) m)
        h
        (λ i l. e (start + i) ∙ no_left (in_word later (start + i))
        (stops_too && in_word last (start + i))
        (past later middle (λ j t. (q.within j t).0) (start + i) (omega arith))
        ∙ ap (λ t. t && in_word last (start + i)) q.empty)
        p.places

    twice : (n : ℕ) → n ≡ start + length a.places → (place : Place)
        → moved n place ≡ moved start (moved (length a.places) place)
    twice n e place = ap (λ i. moved i place) e ∙ sym (moved_moved start (length a.places) place)

    behind : ArePlacesWritten new ends bytes middle
        (map (moved start) (map (moved (length a.places)) b.places))
    behind = subst (ArePlacesWritten new ends bytes middle)
        (map_both (moved (length a.places)) (moved start) b.places)
        (places_stay (moved middle) (λ place. moved start (moved (length a.places) place)) rows new
        bytes bytes middle later ends b.places (twice middle m)
        (λ i k l u v. h i k ∙ no_first (in_word (get_or rows i 0) k) (in_word last i)
        (in_word second k) (before last middle (λ j t. let w = (p.within j t).1 in omega arith)
        i l))
        (λ i l u. e i ∙ no_right (in_word later i) (in_word last i) stops_too
        (before last middle (λ j t. let w = (p.within j t).1 in omega arith) i l))
        (λ i l u. refl)
        q.places)

pub many_turned : (a b : Automaton) → length (in_turn a b) ≡ length a.places + length b.places
many_turned a b =
    length-append (map (followed b.holds_empty (up (length a.places) b.first)) a.places)
    (map (moved (length a.places)) b.places)
    ∙ rw (
      length-map a.places (followed b.holds_empty (up (length a.places) b.first)),
      length-map
          b.places (moved (length a.places)),
    ) refl

turned_within : (start middle last later ends : ℕ) (stops : Bool) (m n : ℕ) → middle ≡ start + m →
    ((p : ℕ) → in_word ends p ≡ (in_word later p || (stops && in_word last p))) →
    ((p : ℕ) → in_word last p ≡ true → (start ≤ p) × (p < start + m)) →
    ((p : ℕ) → in_word later p ≡ true → (middle ≤ p) × (p < middle + n)) →
    (p : ℕ) → in_word ends p ≡ true → (start ≤ p) × (p < start + (m + n))
turned_within start middle last later ends stops m n k e u v p t =
    at (or_cases (in_word later p) _ (sym (e p) ∙ t))
  where
    at : (in_word later p ≡ true) ⊎ ((stops && in_word last p) ≡ true) → (start ≤ p)
        × (p < start + (m + n))
    at (inl h) = let w = v p h in (omega arith, omega arith)
    at (inr h) = let w = u p (second_so stops _ h) in (omega arith, omega arith)

-- a copy of a piece before the rest of the copies
pub before_segment : (rows new : List ℕ) (bytes : List (List ℕ))
    (start middle first last second later ends : ℕ) (stops stops_too live live_too stop : Bool)
    (a b : Automaton) →
    middle ≡ start + length a.places →
    ((p k : ℕ) → in_word (get_or new p 0) k
    ≡ (in_word (get_or rows p 0) k || (in_word last p && in_word second k))) →
    ((p : ℕ) → in_word ends p ≡ (in_word later p || (stops_too && in_word last p))) →
    IsSegment rows bytes start first last stops live a → IsSegment rows bytes middle second later
    stops_too live_too b →
    IsSegment new bytes start first ends stop true (copy_before stop a b)
before_segment rows new bytes start middle first last second later ends stops stops_too live
    live_too stop a b m h e p q = record {
      places = turned rows new bytes start middle first last second later ends stops stops_too live
          live_too a b m h e p q;
      begins = p.begins;
      within = λ i t. rw (many_turned a b)
          (turned_within start middle last later ends stops_too (length a.places) (length b.places)
          m e
          p.within q.within i t);
      empty = refl;
      live = refl;
    }

pub first_turned : (v : Bool) (start middle n k : ℕ) (xs ys : List ℕ) → middle ≡ start + n
    → (among (up start xs) k || (v && among (up middle ys) k))
    ≡ among (up start (if v then xs ++ up n ys else xs)) k
first_turned true start middle n k xs ys m =
    sym (ap (λ ns. among ns k) (map-append (λ i. i + start) xs (up n ys))
    ∙ among_append (up start xs) (up start (up n ys)) k
    ∙ ap (λ ns. among (up start xs) k || among ns k) (up_up start n ys ∙ ap (λ i. up i ys) (sym m)))
first_turned false start middle n k xs ys m = no_right (among (up start xs) k) false true refl

-- two parts in turn
pub both_segment : (rows new : List ℕ) (bytes : List (List ℕ))
    (start middle first last second later begun ends : ℕ) (stops stops_too live live_too : Bool)
    (a b : Automaton) →
    middle ≡ start + length a.places →
    ((p k : ℕ) → in_word (get_or new p 0) k
    ≡ (in_word (get_or rows p 0) k || (in_word last p && in_word second k))) →
    ((p : ℕ) → in_word ends p ≡ (in_word later p || (stops_too && in_word last p))) →
    ((k : ℕ) → in_word begun k ≡ (in_word first k || (stops && in_word second k))) →
    IsSegment rows bytes start first last stops live a → IsSegment rows bytes middle second later
    stops_too live_too b →
    IsSegment new bytes start begun ends (stops && stops_too) true (both_live a b)
both_segment rows new bytes start middle first last second later begun ends stops stops_too live
    live_too a b m h e f p q = record {
      places = turned rows new bytes start middle first last second later ends stops stops_too live
          live_too a b m h e p q;
      begins = λ k l. f k ∙ (let u : stops ≡ a.holds_empty = p.empty in
          let v : in_word first k ≡ among (up start a.first) k = p.begins k l in
          let w : in_word second k ≡ among (up middle b.first) k = q.begins k l in
          rw (u, v, w) (first_turned a.holds_empty start middle (length a.places) k a.first b.first
          m));
      within = λ i t. rw (many_turned a b)
          (turned_within start middle last later ends stops_too (length a.places) (length b.places)
          m e
          p.within q.within i t);
      empty = let u : stops ≡ a.holds_empty = p.empty in let v : stops_too ≡ b.holds_empty =
          q.empty in
          rw (u, v) refl;
      live = refl;
    }

pub up_none : (ns : List ℕ) → up 0 ns ≡ ns
up_none [] = refl
up_none (n ∷ ns) = let a : n + 0 ≡ n = omega arith in let e : up 0 ns ≡ ns = up_none ns in
    rw (a, e) refl

-- the piece of a repeat, as often as one likes
pub looped_segment : (rows new : List ℕ) (bytes : List (List ℕ)) (start first last : ℕ)
    (stops live stop : Bool) (a : Automaton) →
    ((p k : ℕ) → in_word (get_or new p 0) k
    ≡ (in_word (get_or rows p 0) k || (in_word last p && in_word first k))) →
    IsSegment rows bytes start first last stops live a →
    IsSegment new bytes start first last stop true (looped stop a)
looped_segment rows new bytes start first last stops live stop a h p = record {
  places = subst
      (λ ns. ArePlacesWritten new last bytes start
      (map (moved start) (map (followed true ns) a.places))) (up_none a.first)
      (places_followed rows new bytes start 0 first last last true a.places a.first
      (λ k l. p.begins k l
      ∙ ap (λ n. among (up n a.first) k) (let c : start ≡ start + 0 = omega arith in c)) h
      (λ i l. refl) p.places);
  begins = p.begins;
  within = λ i t. rw (length-map a.places (followed true a.first)) (p.within i t);
  empty = refl;
  live = refl;
}

-- one part or another
pub either_segment : (rows : List ℕ) (bytes : List (List ℕ))
    (start middle first last second later begun ends : ℕ) (stops stops_too live live_too : Bool)
    (a b : Automaton) →
    middle ≡ start + length a.places →
    ((p : ℕ) → in_word ends p ≡ (in_word later p || in_word last p)) →
    ((k : ℕ) → in_word begun k ≡ (in_word first k || in_word second k)) →
    IsSegment rows bytes start first last stops live a → IsSegment rows bytes middle second later
    stops_too live_too b →
    IsSegment rows bytes start begun ends (stops || stops_too) (live || live_too)
    (either_automaton a b)
either_segment rows bytes start middle first last second later begun ends stops stops_too live
    live_too a b m e f p q = record {
      places = subst (ArePlacesWritten rows ends bytes start)
          (sym (map-append (moved start) a.places (map (moved (length a.places)) b.places)))
          (written_append rows ends bytes start middle (map (moved start) a.places)
          (map (moved start) (map (moved (length a.places)) b.places))
          (m ∙ ap (λ n. start + n) (sym (length-map a.places (moved start)))) front behind);
      begins = λ k l. f k ∙ (let v : in_word first k ≡ among (up start a.first) k = p.begins k l in
          let w : in_word second k ≡ among (up middle b.first) k = q.begins k l in
          rw (v, w) (first_turned true start middle (length a.places) k a.first b.first m));
      within = λ i t. rw (
        length-append a.places (map (moved (length a.places)) b.places),
        length-map
            b.places (moved (length a.places)),
      )
          (turned_within start middle last later ends true (length a.places) (length b.places) m e
          p.within q.within i t);
      empty = let u : stops ≡ a.holds_empty = p.empty in let v : stops_too ≡ b.holds_empty =
          q.empty in
          rw (u, v) refl;
      live = let u : live ≡ a.is_live = p.live in let v : live_too ≡ b.is_live = q.live in
          rw (u, v) refl;
    }
  where
    front : ArePlacesWritten rows ends bytes start (map (moved start) a.places)
    front = places_stay (moved start) (moved start) rows rows bytes bytes start last ends a.places
        (λ place. refl) (λ i k l u v. refl)
        (λ i l u. e i ∙ no_left (in_word later i) (in_word last i)
        (past later middle (λ j t. (q.within j t).0) i (omega arith)))
        (λ i l u. refl) p.places

    behind : ArePlacesWritten rows ends bytes middle
        (map (moved start) (map (moved (length a.places)) b.places))
    behind = subst (ArePlacesWritten rows ends bytes middle)
        (map_both (moved (length a.places)) (moved start) b.places)
        (places_stay (moved middle) (λ place. moved start (moved (length a.places) place)) rows rows
        bytes bytes middle later ends b.places
        (λ place. ap (λ i. moved i place) m ∙ sym (moved_moved start (length a.places) place))
        (λ i k l u v. refl)
        (λ i l u. e i ∙ no_right (in_word later i) (in_word last i) true
        (before last middle (λ j t. let w = (p.within j t).1 in omega arith) i l))
        (λ i l u. refl)
        q.places)

-- without a place
pub bare_segment : (rows : List ℕ) (bytes : List (List ℕ)) (start : ℕ) (stop : Bool)
    → IsSegment rows bytes start 0 0 stop stop (bare stop)
bare_segment rows bytes start stop = record {
  places = tt;
  begins = λ k l. no_bit k;
  within = λ p t. let c : true ≡ false = sym t ∙ no_bit p in cc;
  empty = refl;
  live = refl;
}
  where
    no_bit : (k : ℕ) → in_word 0 k ≡ false
    no_bit k = ap (λ n. n == 1) (bit_at-zero k)

-- other rows, which are the same where the part stands
pub same_segment : (rows new : List ℕ) (bytes others : List (List ℕ)) (start first last : ℕ)
    (stops live : Bool) (a : Automaton) →
    ((p k : ℕ) → start ≤ p → p < start + length a.places → k < 64 → in_word (get_or new p 0) k
    ≡ in_word (get_or rows p 0) k) →
    ((p : ℕ) → start ≤ p → p < start + length a.places → get_or others p [] ≡ get_or bytes p []) →
    IsSegment rows bytes start first last stops live a → IsSegment new others start first last stops
    live a
same_segment rows new bytes others start first last stops live a r b p = record {
  places = places_stay (moved start) (moved start) rows new bytes others start last last a.places
      (λ place. refl) r (λ i l u. refl) b p.places;
  begins = p.begins;
  within = p.within;
  empty = p.empty;
  live = p.live;
}

-- the bits of a word moved up stand so many places further up
pub moved_within : (start by last n : ℕ)
    → ((p : ℕ) → in_word last p ≡ true → (start ≤ p) × (p < start + n)) → (p : ℕ)
    → in_word (last * 2 ^ by % 2 ^ 64) p ≡ true → (start + by ≤ p) × (p < start + by + n)
moved_within start by last n w p t = at p t (cases_lt p 64)
  where
    low : (i : ℕ) → i < 64 → in_word (last * 2 ^ by % 2 ^ 64) i ≡ true → (i < by) ⊎ (by ≤ i)
        → (start + by ≤ i) × (i < start + by + n)
    low i u t (inl m) = let c : true ≡ false = sym t ∙ word_below last by i u m in cc
    low i u t (inr m) = let v = w (i - by) (sym (word_above last by i u m) ∙ t) in
        (omega arith, omega arith)

    at : (i : ℕ) → in_word (last * 2 ^ by % 2 ^ 64) i ≡ true → (i < 64) ⊎ (64 ≤ i)
        → (start + by ≤ i) × (i < start + by + n)
    at i t (inl u) = low i u t (cases_lt i by)
    at i t (inr u) =
        let z : bit_at (last * 2 ^ by % 2 ^ 64) i ≡ 0 =
        bit_at_above (last * 2 ^ by % 2 ^ 64) 64 i (omega arith) u in
        let c : true ≡ false = sym t ∙ ap (λ n. n == 1) z in cc

-- the part once more, so many places further up
pub moved_segment : (rows new : List ℕ) (bytes others : List (List ℕ)) (start by first last : ℕ)
    (stops live : Bool) (a : Automaton) →
    start + by + length a.places ≤ 64 →
    ((i k : ℕ) → i < length a.places → k < 64 → in_word (get_or new (start + by + i) 0) k
    ≡ in_word (get_or rows (start + i) 0 * 2 ^ by % 2 ^ 64) k) →
    ((i : ℕ) → i < length a.places → get_or others (start + by + i) [] ≡ get_or bytes (start + i)
    []) →
    IsSegment rows bytes start first last stops live a →
    IsSegment new others (start + by) (first * 2 ^ by % 2 ^ 64) (last * 2 ^ by % 2 ^ 64) stops live
    a
moved_segment rows new bytes others start by first last stops live a l r b p = record {
  places = places_moved rows new bytes others start by last (last * 2 ^ by % 2 ^ 64) a.places r
      (λ i u. word_above last by (start + by + i) (omega arith) (omega arith)
      ∙ ap (in_word last) (let c : start + by + i - by ≡ start + i = omega arith in c))
      b p.places;
  begins = λ k u. moved_word first by (up start a.first) p.begins k u
      ∙ ap (λ ns. among ns k)
      (up_up by start a.first
      ∙ ap (λ n. up n a.first) (let c : by + start ≡ start + by = omega arith in c));
  within = moved_within start by last (length a.places) p.within;
  empty = p.empty;
  live = p.live;
}
