-- Places written one behind the other, and what joining, copying and looping do to them.
use Rattle.std.proofs.Common.{◌≡◌, refl, sym, ◌∙◌, ap, subst, ℕ, suc, ◌+◌, ◌*◌, ◌%◌, ◌^◌, ◌<◌, ◌≤◌}
use Rattle.std.proofs.Common.{Bool, true, false, List, [], ◌∷◌, ◌++◌, length, map, get_or, arith}
use Rattle.std.specs.Prelude.{◌||◌, ◌&&◌, if◌then◌else◌}
use Rattle.pattern_match.specs.Automaton.{Place, moved, up, added, followed}
use Rattle.pattern_match.specs.Segments.{in_word, among, IsPlaceWritten, ArePlacesWritten}
use Rattle.pattern_match.proofs.Copies.{up_up}
use Rattle.pattern_match.proofs.SegmentWords.{moved_word, among_added}

one_later : (a i : ℕ) → a + suc i ≡ suc a + i
one_later a i = omega arith

none_later : (a : ℕ) → a ≡ a + 0
none_later a = omega arith

map_twice : (f g : Place → Place) (places : List Place) → map (λ place. g (f place)) places
    ≡ map g (map f places)
map_twice f g [] = refl
map_twice f g (p ∷ ps) = ap (λ qs. g (f p) ∷ qs) (map_twice f g ps)

-- the same places in two forms: what holds of each, holds of all
pub each_written : (f g : Place → Place) (rows new : List ℕ) (last ends : ℕ)
    (bytes others : List (List ℕ)) (from to : ℕ) (places : List Place)
    → ((i : ℕ) (place : Place) → i < length places → IsPlaceWritten rows last bytes (from + i)
    (f place) → IsPlaceWritten new ends others (to + i) (g place))
    → ArePlacesWritten rows last bytes from (map f places) → ArePlacesWritten new ends others to
    (map g places)
each_written f g rows new last ends bytes others from to [] h w = tt
each_written f g rows new last ends bytes others from to (p ∷ ps) h w = (
  subst (λ n. IsPlaceWritten new ends others n (g p)) (sym (none_later to))
      (h 0 p (omega arith) (subst (λ n. IsPlaceWritten rows last bytes n (f p)) (none_later from)
      w.0)),
  each_written f g rows new last ends bytes others (suc from) (suc to) ps
      (λ i place l v. subst (λ n. IsPlaceWritten new ends others n (g place)) (one_later to i)
      (h (suc i) place (omega arith)
      (subst (λ n. IsPlaceWritten rows last bytes n (f place)) (sym (one_later from i)) v)))
      w.1,
)

pub written_append : (rows : List ℕ) (last : ℕ) (bytes : List (List ℕ)) (from n : ℕ)
    (xs ys : List Place) → n ≡ from + length xs → ArePlacesWritten rows last bytes from xs
    → ArePlacesWritten rows last bytes n ys → ArePlacesWritten rows last bytes from (xs ++ ys)
written_append rows last bytes from n [] ys e v w =
    subst (λ m. ArePlacesWritten rows last bytes m ys) (let f : n ≡ from = omega arith in f) w
written_append rows last bytes from n (x ∷ xs) ys e v w =
    (v.0, written_append rows last bytes (suc from) n xs ys (omega arith) v.1 w)

pub no_truth : (v : Bool) → (v ≡ true → ⊥) → v ≡ false
no_truth true h = absurd (h refl)
no_truth false h = refl

or_none : (v w : Bool) → w ≡ false → (v || w) ≡ v
or_none true w e = refl
or_none false w e = e

and_turned : (v w : Bool) → (v && w) ≡ (w && v)
and_turned true true = refl
and_turned true false = refl
and_turned false true = refl
and_turned false false = refl

none_and : (v w : Bool) → w ≡ false → (v && w) ≡ false
none_and true w e = e
none_and false w e = refl

pub followed_numbers : (v : Bool) (by k : ℕ) (next first : List ℕ)
    → among (up by (if v then added next first else next)) k
    ≡ (among (up by next) k || (v && among (up by first) k))
followed_numbers true by k next first = among_added by next first k
followed_numbers false by k next first = sym (or_none (among (up by next) k) false refl)

-- what a row has after a link, of a place whose row and whose end are known
linked_row : (row new first : ℕ) (ends is_last : Bool) (by n k : ℕ) (next numbers : List ℕ)
    → in_word new k ≡ (in_word row k || (ends && in_word first k))
    → in_word row k ≡ among (up by next) k → ends ≡ is_last
    → in_word first k ≡ among (up (by + n) numbers) k
    → in_word new k ≡ among (up by (if is_last then added next (up n numbers) else next)) k
linked_row row new first ends is_last by n k next numbers h a e f =
    let g : among (up by (up n numbers)) k ≡ in_word first k =
    ap (λ ns. among ns k) (up_up by n numbers) ∙ sym f in
    h ∙ rw (a, e, ← g) (sym (followed_numbers is_last by k next (up n numbers)))

-- the places of one part, which another follows
pub places_followed : (rows new : List ℕ) (bytes : List (List ℕ)) (start n first last ends : ℕ)
    (stops : Bool) (places : List Place) (numbers : List ℕ) →
    ((k : ℕ) → k < 64 → in_word first k ≡ among (up (start + n) numbers) k) →
    ((p k : ℕ) → in_word (get_or new p 0) k
    ≡ (in_word (get_or rows p 0) k || (in_word last p && in_word first k))) →
    ((i : ℕ) → i < length places → in_word ends (start + i) ≡ (stops && in_word last (start + i))) →
    ArePlacesWritten rows last bytes start (map (moved start) places) →
    ArePlacesWritten new ends bytes start
    (map (moved start) (map (followed stops (up n numbers)) places))
places_followed rows new bytes start n first last ends stops places numbers f h e w =
    subst (ArePlacesWritten new ends bytes start)
    (map_twice (followed stops (up n numbers)) (moved start) places)
    (each_written (moved start) (λ place. moved start (followed stops (up n numbers) place)) rows
    new last ends bytes bytes start start places
    (λ i place m v. record {
      follows = λ k u. linked_row (get_or rows (start + i) 0) (get_or new (start + i) 0) first
          (in_word last (start + i)) place.is_last start n k place.next numbers (h (start + i) k)
          (v.follows k u) v.ends (f k u);
      ends = e i m ∙ ap (λ t. stops && t) v.ends ∙ and_turned stops place.is_last;
      takes = v.takes;
    }) w)

-- places whose rows, ends and bytes stay
pub places_stay : (f g : Place → Place) (rows new : List ℕ) (bytes others : List (List ℕ))
    (start last ends : ℕ) (places : List Place) →
    ((place : Place) → f place ≡ g place) →
    ((p k : ℕ) → start ≤ p → p < start + length places → k < 64 → in_word (get_or new p 0) k
    ≡ in_word (get_or rows p 0) k) →
    ((p : ℕ) → start ≤ p → p < start + length places → in_word ends p ≡ in_word last p) →
    ((p : ℕ) → start ≤ p → p < start + length places → get_or others p [] ≡ get_or bytes p []) →
    ArePlacesWritten rows last bytes start (map f places) → ArePlacesWritten new ends others start
    (map g places)
places_stay f g rows new bytes others start last ends places same r e b w =
    each_written f g rows new last ends bytes others start start places
    (λ i place l v. subst (IsPlaceWritten new ends others (start + i)) (same place) (record {
      follows = λ k u. r (start + i) k (omega arith) (omega arith) u ∙ v.follows k u;
      ends = e (start + i) (omega arith) (omega arith) ∙ v.ends;
      takes = b (start + i) (omega arith) (omega arith) ∙ v.takes;
    })) w

-- places once more, so many further up
pub places_moved : (rows new : List ℕ) (bytes others : List (List ℕ)) (start by last ends : ℕ)
    (places : List Place) →
    ((i k : ℕ) → i < length places → k < 64 → in_word (get_or new (start + by + i) 0) k
    ≡ in_word (get_or rows (start + i) 0 * 2 ^ by % 2 ^ 64) k) →
    ((i : ℕ) → i < length places → in_word ends (start + by + i) ≡ in_word last (start + i)) →
    ((i : ℕ) → i < length places → get_or others (start + by + i) [] ≡ get_or bytes (start + i) [])
    →
    ArePlacesWritten rows last bytes start (map (moved start) places)
    → ArePlacesWritten new ends others (start + by) (map (moved (start + by)) places)
places_moved rows new bytes others start by last ends places r e b w =
    each_written (moved start) (moved (start + by)) rows new last ends bytes others start
    (start + by) places
    (λ i place l v. record {
      follows = λ k u. r i k l u ∙ moved_word (get_or rows (start + i) 0) by (up start place.next)
          v.follows k u
          ∙ ap (λ ns. among ns k)
          (up_up by start place.next
          ∙ ap (λ n. up n place.next) (let c : by + start ≡ start + by = omega arith in c));
      ends = e i l ∙ v.ends;
      takes = b i l ∙ v.takes;
    }) w
