-- The tables of places that were laid: with the place before the first byte behind them.
use Rattle.std.proofs.Common.{◌≡◌, refl, sym, ◌∙◌, ap, subst, ℕ, zero, suc, ◌+◌, ◌*◌, ◌/◌, ◌%◌, ◌<◌}
use Rattle.std.proofs.Common.{◌≤◌, ◌==◌, Bool, true, false, List, [], ◌∷◌, ◌++◌, length, map}
use Rattle.std.proofs.Common.{get_or, Some, ◌⊎◌, inl, inr, arith, length-append}
use Rattle.std.specs.Prelude.{◌||◌, ◌&&◌, slice_get}
use Rattle.std.proofs.lemmas.Bool.{cases_lt, or_cases}
use Rattle.std.proofs.lemmas.Option.{slice_get_past}
use Rattle.std.proofs.lemmas.List.{length-map, map-append, get_or_append_left, get_or_push}
use Rattle.std.proofs.lemmas.List.{ext_get_or}
use Rattle.std.specs.Cmp.{second_so}
use Rattle.pattern_match.specs.Automaton.{Place, Automaton, moved, up, all_places}
use Rattle.pattern_match.specs.Class.{class_bytes}
use Rattle.pattern_match.specs.States.{bit}
use Rattle.pattern_match.specs.Tables.{AreTables, leads, ends, bytes_in}
use Rattle.pattern_match.specs.Segments.{in_word, among, IsPlaceWritten, ArePlacesWritten}
use Rattle.pattern_match.specs.Segments.{IsSegment}
use Rattle.pattern_match.specs.declared.class.Class.{Class}
use Rattle.pattern_match.specs.declared.class.Class.TheVariants as class
use Rattle.pattern_match.proofs.SegmentPlaces.{written_append, places_stay, no_truth}
use Rattle.pattern_match.proofs.Segments.{up_none}

-- a place that is written, by its index
pub record IsFound (rows : List ℕ) (last : ℕ) (bytes : List (List ℕ)) (places : List Place)
    (from p : ℕ) : Type 0 where
  pub place : Place
  pub stands : slice_get places p ≡ Some place
  pub written : IsPlaceWritten rows last bytes (from + p) place

found : (rows : List ℕ) (last : ℕ) (bytes : List (List ℕ)) (places : List Place) (from p : ℕ)
    → p < length places → ArePlacesWritten rows last bytes from places
    → IsFound rows last bytes places from p
found rows last bytes [] from p l w = absurd (omega arith)
found rows last bytes (x ∷ xs) from zero l w =
    record {
      place = x;
      stands = refl;
      written = subst (λ n. IsPlaceWritten rows last bytes n x)
          (let e : from ≡ from + 0 = omega arith in e) w.0;
    }
found rows last bytes (x ∷ xs) from (suc p) l w =
    let r = found rows last bytes xs (suc from) p (omega arith) w.1 in
    record {
      place = r.place;
      stands = r.stands;
      written = subst
          (λ n. IsPlaceWritten rows last bytes n r.place)
          (let e : suc from + p ≡ from + suc p = omega arith in e) r.written;
    }

moved_none : (place : Place) → moved 0 place ≡ place
moved_none place = let e : up 0 place.next ≡ place.next = up_none place.next in rw e refl

none_moved : (places : List Place) → map (moved 0) places ≡ places
none_moved [] = refl
none_moved (p ∷ ps) = let e = moved_none p in let ih = none_moved ps in rw (e, ih) refl

-- the place before the first byte
start_of : Automaton → Place
start_of a = record { bytes = 0 ∷ []; is_last = a.holds_empty; next = a.first }

module _ (rows : List ℕ) (classes : List Class) (first last ended : ℕ) (stops live : Bool)
    (a : Automaton) (s : IsSegment rows (map class_bytes classes) 0 first last stops live a)
    (count : length rows ≡ length a.places) (even : length classes ≡ length rows)
    (few : length rows ≤ 63)
    (h : (j : ℕ) → j < 64 → in_word ended j ≡ (in_word last j || (stops && (j == length rows))))
  where
    all : List Place
    all = a.places ++ start_of a ∷ []

    not_at : (p n : ℕ) → p < n → (p == n) ≡ false
    not_at p n l = grind arith

    is_at : (n : ℕ) → (n == n) ≡ true
    is_at n = grind arith

    front : ArePlacesWritten (rows ++ first ∷ []) ended
        (map class_bytes (classes ++ class.Byte 0 ∷ [])) 0 a.places
    front = subst
        (ArePlacesWritten (rows ++ first ∷ []) ended
        (map class_bytes (classes ++ class.Byte 0 ∷ []))
        0) (none_moved a.places)
        (places_stay (moved 0) (moved 0) rows (rows ++ first ∷ []) (map class_bytes classes)
        (map class_bytes (classes ++ class.Byte 0 ∷ [])) 0 last ended a.places (λ place. refl)
        (λ p k l m u. ap (λ w. in_word w k)
        (get_or_append_left rows (first ∷ []) 0 p (omega arith)))
        (λ p l m. h p (omega arith) ∙ (let e = not_at p (length rows) (omega arith) in
        rw e (at (in_word last p) stops)))
        (λ p l m. ap (λ w. get_or w p []) (map-append class_bytes classes (class.Byte 0 ∷ []))
        ∙ get_or_append_left (map class_bytes classes) ((0 ∷ []) ∷ []) [] p
        (let u = length-map classes class_bytes in omega arith))
        s.places)
      where
        at : (v w : Bool) → (v || (w && false)) ≡ v
        at true w = refl
        at false true = refl
        at false false = refl

    behind : IsPlaceWritten (rows ++ first ∷ []) ended
        (map class_bytes (classes ++ class.Byte 0 ∷ [])) (length rows) (start_of a)
    unfolding start_of
    behind = record {
      follows = λ k l. ap (λ w. in_word w k) (get_or_push rows first 0 (length rows) refl)
          ∙ s.begins k l ∙ ap (λ ns. among ns k) (up_none a.first);
      ends = h (length rows) (omega arith)
          ∙ (let e = is_at (length rows) in let z : in_word last (length rows) ≡ false = no_truth _
          (λ t. let w = (s.within (length rows) t).1 in omega arith) in rw (e, z) (at stops))
          ∙ s.empty;
      takes = ap (λ w. get_or w (length rows) [])
          (map-append class_bytes classes (class.Byte 0 ∷ []))
          ∙ get_or_push (map class_bytes classes) (0 ∷ []) [] (length rows)
          (length-map classes class_bytes ∙ even);
    }
      where
        at : (v : Bool) → (v && true) ≡ v
        at true = refl
        at false = refl

    written : ArePlacesWritten (rows ++ first ∷ []) ended
        (map class_bytes (classes ++ class.Byte 0 ∷ [])) 0 all
    unfolding all
    written = written_append (rows ++ first ∷ []) ended
        (map class_bytes (classes ++ class.Byte 0 ∷ [])) 0 (length rows) a.places (start_of a ∷ [])
        (omega arith) front (behind, tt)

    many : length all ≡ length rows + 1
    unfolding all
    many = length-append a.places (start_of a ∷ []) ∙ omega arith

    at_place : (p : ℕ) → p < length all → IsFound (rows ++ first ∷ []) ended
        (map class_bytes (classes ++ class.Byte 0 ∷ [])) all 0 p
    at_place p l = found (rows ++ first ∷ []) ended (map class_bytes (classes ++ class.Byte 0 ∷ []))
        all 0 p l written

    row_at : (p q : ℕ) → p < length all → q < 64 → bit (rows ++ first ∷ []) (64 * (p * 1) + q)
        ≡ leads (slice_get all p) q
    row_at p q l u =
        let f = at_place p l in
        let d : (64 * (p * 1) + q) / 64 ≡ 0 + p = omega arith in
        let r : (64 * (p * 1) + q) % 64 ≡ q = omega arith in
        ap (λ i. in_word (get_or (rows ++ first ∷ []) i 0) ((64 * (p * 1) + q) % 64)) d
        ∙ ap (in_word (get_or (rows ++ first ∷ []) (0 + p) 0)) r ∙ f.written.follows q u
        ∙ ap (λ o. leads o q) (sym f.stands)

    last_at : (p : ℕ) → p < 64 → bit (ended ∷ []) p ≡ ends (slice_get all p)
    last_at p u = ap (λ i. in_word (get_or (ended ∷ []) i 0) (p % 64)) d ∙ ap (in_word ended) r
        ∙ at (cases_lt p (length all))
      where
        d : p / 64 ≡ 0
        d = omega arith

        r : p % 64 ≡ p
        r = omega arith

        past_all : length all ≤ p → (in_word ended p ≡ true) → ⊥
        past_all l t = by_case (or_cases (in_word last p) _ (sym (h p u) ∙ t))
          where
            by_case : (in_word last p ≡ true) ⊎ ((stops && (p == length rows)) ≡ true) → ⊥
            by_case (inl v) = let w = (s.within p v).1 in let m = many in omega arith
            by_case (inr v) = let w : p ≡ length rows =
                (let x = second_so stops _ v in grind arith) in let m = many in omega arith

        at : (p < length all) ⊎ (length all ≤ p) → in_word ended p ≡ ends (slice_get all p)
        at (inl l) =
            let f = at_place p l in
            let z : p ≡ 0 + p = omega arith in
            ap (in_word ended) z ∙ f.written.ends ∙ ap ends (sym f.stands)
        at (inr l) = no_truth (in_word ended p) (past_all l)
            ∙ ap ends (sym (slice_get_past all p l))

    bytes_at : map class_bytes (classes ++ class.Byte 0 ∷ []) ≡ map bytes_in all
    bytes_at = ext_get_or [] (map class_bytes (classes ++ class.Byte 0 ∷ [])) (map bytes_in all)
        (length-map (classes ++ class.Byte 0 ∷ []) class_bytes
        ∙ length-append classes (class.Byte 0 ∷ []) ∙ (let m = many in omega arith)
        ∙ sym (length-map all bytes_in))
        (λ i l. one i (let m = many in
        let n = length-map (classes ++ class.Byte 0 ∷ []) class_bytes in
        let k = length-append classes (class.Byte 0 ∷ []) in omega arith))
      where
        place_read : (places : List Place) (i : ℕ) (place : Place) → slice_get places i ≡ Some place
            → get_or (map bytes_in places) i [] ≡ place.bytes
        place_read [] i place e = cc
        place_read (x ∷ xs) zero place e = cc
        place_read (x ∷ xs) (suc i) place e = place_read xs i place e

        one : (i : ℕ) → i < length all → get_or (map class_bytes (classes ++ class.Byte 0 ∷ [])) i
            []
            ≡ get_or (map bytes_in all) i []
        one i l =
            let f = at_place i l in
            let z : i ≡ 0 + i = omega arith in
            ap (λ n. get_or (map class_bytes (classes ++ class.Byte 0 ∷ [])) n []) z
            ∙ f.written.takes
            ∙ sym (place_read all i f.place f.stands)

    pub closed_tables : a.is_live ≡ true → AreTables 1 (rows ++ first ∷ []) (ended ∷ [])
        (classes ++ class.Byte 0 ∷ []) (all_places a)
    unfolding all start_of
    closed_tables v = rw v (record {
      wide = let m = many in omega arith;
      rows = length-append rows (first ∷ []) ∙ (let m = many in omega arith);
      accepts = refl;
      follows = row_at;
      last = last_at;
      bytes = bytes_at;
    })
