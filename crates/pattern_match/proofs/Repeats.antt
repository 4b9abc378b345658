-- Copies of a piece one behind the other, joined from the last one to the first.
use Rattle.std.proofs.Common.{◌≡◌, refl, sym, ◌∙◌, ap, subst, ℕ, zero, suc, pred, ◌+◌, ◌-◌, ◌*◌}
use Rattle.std.proofs.Common.{◌%◌, ◌^◌, ◌<◌, ◌≤◌, ◌==◌, Bool, true, false, List, [], ◌∷◌, length}
use Rattle.std.proofs.Common.{map, get_or, ◌⊎◌, inl, inr, arith}
use Rattle.std.specs.Prelude.{◌||◌, None}
use Rattle.std.proofs.lemmas.Bool.{cases_lt}
use Rattle.std.proofs.lemmas.List.{length-map}
use Rattle.pattern_match.specs.Automaton.{Automaton, bare, looped, copies, endless, copy_before}
use Rattle.pattern_match.specs.Automaton.{followed}
use Rattle.pattern_match.specs.Class.{class_bytes}
use Rattle.pattern_match.specs.Segments.{in_word}
use Rattle.pattern_match.specs.Layouts.{IsSegmentOf, AreSegments, SameBelow, AreLinked, further}
use Rattle.pattern_match.specs.Layouts.{before_rest, StandCopies, CanCopy, AreGrown, IsLastPiece}
use Rattle.pattern_match.specs.Layouts.{AreRepeated, copies_of}
use Rattle.pattern_match.specs.declared.class.Class.{Class}
use Rattle.pattern_match.specs.declared.segment.Segment.{Segment}
use Rattle.pattern_match.proofs.SegmentWords.{word_above, word_below}
use Rattle.pattern_match.proofs.Rows.{row_within}
use Rattle.pattern_match.proofs.Segments.{many_turned, same_segment, moved_segment, moved_within}
use Rattle.pattern_match.proofs.Segments.{bare_segment, no_first, past}

-- joined from the last one to the first, the copies are those of the repeat
copies_so_far : (left most least : ℕ) (a : Automaton)
    → before_rest least left a (copies (least - left) most a) ≡ copies least (left + most) a
copies_so_far zero most least a =
    let p : least - 0 ≡ least = omega arith in
    let q : 0 + most ≡ most = omega arith in
    rw (p, q) refl
copies_so_far (suc left) most least a =
    let p : pred (least - left) ≡ least - suc left = omega arith in
    let q : suc left + most ≡ left + suc most = omega arith in
    ap (λ n. before_rest least left a
    (copy_before ((least - left == 0) || a.holds_empty) a (copies n most a))) (sym p)
    ∙ copies_so_far left (suc most) least a
    ∙ ap (λ n. copies least n a) (sym q)

pub all_copies : (least most : ℕ) (a : Automaton) → before_rest least most a (bare true)
    ≡ copies least most a
all_copies least most a = let p : most + 0 ≡ most = omega arith in copies_so_far most 0 least a
    ∙ ap (λ n. copies least n a) p

endless_so_far : (left least : ℕ) (a : Automaton) → left < least
    → before_rest least left a (endless (least - left) a) ≡ endless least a
endless_so_far zero least a l = let p : least - 0 ≡ least = omega arith in ap (λ n. endless n a) p
endless_so_far (suc left) least a l =
    let p : least - left ≡ suc (suc (least - left - 2)) = omega arith in
    let q : least - suc left ≡ suc (least - left - 2) = omega arith in
    let z : (suc (suc (least - left - 2)) == 0) ≡ false = grind arith in
    let e : copy_before ((least - left == 0) || a.holds_empty) a (endless (least - suc left) a)
    ≡ endless (least - left) a = rw (p, q, z) refl in
    ap (before_rest least left a) e ∙ endless_so_far left least a (omega arith)

-- an endless repeat, from its last copy, which is entered again
pub all_endless : (least last : ℕ) (a : Automaton) (stop : Bool) → 0 < least → last + 1 ≡ least
    → stop ≡ ((least == 0) || a.holds_empty) → before_rest least last a (looped stop a)
    ≡ endless least a
all_endless least last a stop l m s =
    let p : least - last ≡ 1 = omega arith in
    let z : (least == 0) ≡ false = grind arith in
    let e : looped stop a ≡ endless (least - last) a = rw (p, s, z) refl in
    ap (before_rest least last a) e ∙ endless_so_far last least a (omega arith)

one_more : (c n : ℕ) → suc c * n ≡ c * n + n
one_more c n = grind arith

pub many_copies : (least most : ℕ) (a : Automaton) → length (copies least most a).places
    ≡ most * length a.places
many_copies least zero a = omega arith
many_copies least (suc most) a =
    many_turned a (copies (pred least) most a)
    ∙ (let e = many_copies (pred least) most a in let f = one_more most (length a.places) in
    rw (e, f) (omega arith))

pub many_looped : (stop : Bool) (a : Automaton) → length (looped stop a).places
    ≡ 1 * length a.places
many_looped stop a = length-map a.places (followed true a.first) ∙ omega arith

pub many_endless : (least : ℕ) (a : Automaton) → 0 < least → length (endless least a).places
    ≡ least * length a.places
many_endless zero a l = absurd (omega arith)
many_endless (suc zero) a l = many_looped a.holds_empty a
many_endless (suc (suc least)) a l =
    many_turned a (endless (suc least) a)
    ∙ (let e = many_endless (suc least) a (omega arith) in
    let f = one_more (suc least) (length a.places) in rw (e, f) (omega arith))

-- a row that was moved up, moved up once more
twice_moved : (word new by more k : ℕ) → k < 64
    → ((j : ℕ) → j < 64 → in_word new j ≡ in_word (word * 2 ^ by % 2 ^ 64) j)
    → in_word (new * 2 ^ more % 2 ^ 64) k ≡ in_word (word * 2 ^ (by + more) % 2 ^ 64) k
twice_moved word new by more k l h = at (cases_lt k more) (cases_lt k (by + more))
  where
    at : (k < more) ⊎ (more ≤ k) → (k < by + more) ⊎ (by + more ≤ k)
        → in_word (new * 2 ^ more % 2 ^ 64) k ≡ in_word (word * 2 ^ (by + more) % 2 ^ 64) k
    at (inl m) n = word_below new more k l m ∙ sym (word_below word (by + more) k l (omega arith))
    at (inr m) (inl n) = word_above new more k l m ∙ h (k - more) (omega arith)
        ∙ word_below word by (k - more) (omega arith) (omega arith)
        ∙ sym (word_below word (by + more) k l n)
    at (inr m) (inr n) =
        let e : k - more - by ≡ k - (by + more) = omega arith in
        word_above new more k l m ∙ h (k - more) (omega arith)
        ∙ word_above word by (k - more) (omega arith) (omega arith) ∙ ap (in_word word) e
        ∙ sym (word_above word (by + more) k l n)

not_moved : (word k : ℕ) → k < 64 → in_word word k ≡ in_word (word * 2 ^ 0 % 2 ^ 64) k
not_moved word k l =
    sym (word_above word 0 k l (omega arith) ∙ ap (in_word word) (let e : k - 0 ≡ k = omega arith in
    e))

module _ (n start copies : ℕ) (rows new : List ℕ) (classes others : List Class)
    (grown : AreGrown n rows new classes others (copies * n)) (whole : length rows ≡ start + n)
    (even : length classes ≡ length rows) where
  copied_row : (c i k : ℕ) → c < copies + 1 → c * n + n ≤ copies * n + n → i < n → k < 64
      → in_word (get_or new (start + c * n + i) 0) k
      ≡ in_word (get_or rows (start + i) 0 * 2 ^ (c * n) % 2 ^ 64) k
  copied_row zero i k l b u v =
      let z : 0 * n ≡ 0 = omega arith in
      let e : start + 0 * n + i ≡ start + i = omega arith in
      ap (λ j. in_word (get_or new j 0) k) e
      ∙ ap (λ word. in_word word k) (grown.kept (start + i) (omega arith))
      ∙ not_moved (get_or rows (start + i) 0) k v
      ∙ ap (λ j. in_word (get_or rows (start + i) 0 * 2 ^ j % 2 ^ 64) k) (sym z)
  copied_row (suc c) i k l b u v =
      let f : suc c * n ≡ c * n + n = one_more c n in
      let e : start + suc c * n + i - n ≡ start + c * n + i = omega arith in
      let m = grown.count in
      ap (λ word. in_word word k) (grown.moved (start + suc c * n + i) (omega arith) (omega arith))
      ∙ ap (λ j. in_word (get_or new j 0 * 2 ^ n % 2 ^ 64) k) e
      ∙ twice_moved (get_or rows (start + i) 0) (get_or new (start + c * n + i) 0) (c * n) n k v
      (λ j w. copied_row c i j (omega arith) (omega arith) u w)
      ∙ ap (λ j. in_word (get_or rows (start + i) 0 * 2 ^ j % 2 ^ 64) k) (sym f)

  copied_bytes : (c i : ℕ) → c * n + n ≤ copies * n + n → i < n
      → get_or (map class_bytes others) (start + c * n + i) [] ≡ get_or (map class_bytes classes)
      (start + i) []
  copied_bytes zero i b u =
      let e : start + 0 * n + i ≡ start + i = omega arith in
      ap (λ j. get_or (map class_bytes others) j []) e ∙ grown.took (start + i) (omega arith)
  copied_bytes (suc c) i b u =
      let f : suc c * n ≡ c * n + n = one_more c n in
      let e : start + suc c * n + i - n ≡ start + c * n + i = omega arith in
      let m = grown.counted in
      grown.takes (start + suc c * n + i) (omega arith) (omega arith)
      ∙ ap (λ j. get_or (map class_bytes others) j []) e
      ∙ copied_bytes c i (omega arith) u

-- the copies of a piece stand one behind the other
pub copies_stand : (rows new : List ℕ) (classes others : List Class) (piece : Segment) (copies : ℕ)
    (a : Automaton) →
    AreGrown (length a.places) rows new classes others (copies * length a.places) →
    length rows ≡ piece.start + length a.places → length classes ≡ length rows → length new ≤ 63 →
    IsSegmentOf rows classes piece a → StandCopies new others piece (copies + 1) a
copies_stand rows new classes others piece copies a g e v few s c l =
    let b : c * length a.places + length a.places ≤ (copies + 1) * length a.places =
    row_within c (copies + 1) (length a.places) l in
    let f : (copies + 1) * length a.places ≡ copies * length a.places + length a.places =
    grind arith in
    let m = g.count in
    moved_segment rows new (map class_bytes classes) (map class_bytes others) piece.start
    (c * length a.places) piece.first piece.last piece.holds_empty piece.is_live a
    (omega arith)
    (λ i k u w. copied_row (length a.places) piece.start copies rows new classes others g e v c i k
    l (omega arith) u w)
    (λ i u. copied_bytes (length a.places) piece.start copies rows new classes others g e v c i
    (omega arith) u)
    s

-- below a place the rows and bytes stay, and with them all segments there
pub segments_stay : (rows new : List ℕ) (classes others : List Class) (segments : List Segment)
    (automata : List Automaton) (end : ℕ) →
    SameBelow rows new end →
    ((p : ℕ) → p < end → get_or (map class_bytes others) p [] ≡ get_or (map class_bytes classes) p
    []) →
    AreSegments rows classes segments automata end → AreSegments new others segments automata end
segments_stay rows new classes others [] [] end r b h = tt
segments_stay rows new classes others [] (a ∷ others_too) end r b h = h
segments_stay rows new classes others (s ∷ ss) [] end r b h = h
segments_stay rows new classes others (s ∷ ss) (a ∷ others_too) end r b h =
    let e = h.1 in (
      same_segment rows new (map class_bytes classes) (map class_bytes others) s.start s.first
          s.last s.holds_empty s.is_live a
          (λ p k u v w. r p k (omega arith)) (λ p u v. b p (omega arith)) h.0,
      e,
      segments_stay rows new classes others ss others_too s.start (λ p k u. r p k (omega arith))
          (λ p u. b p (omega arith)) h.2,
    )

-- a copy joined to the rest: what stands below it stays
pub linked_below : (rows new : List ℕ) (last first n : ℕ) → AreLinked rows new last first
    → ((p : ℕ) → in_word last p ≡ true → n ≤ p) → SameBelow rows new n
linked_below rows new last first n h w p k l = h p k ∙ no_first (in_word (get_or rows p 0) k)
    (in_word last p) (in_word first k) (past last n w p l)

pub below_again : (rows new newer : List ℕ) (n m : ℕ) → m ≤ n → SameBelow rows new n
    → SameBelow new newer m → SameBelow rows newer m
below_again rows new newer n m l f g p k u = g p k u ∙ f p k (omega arith)

-- while copies are joined: the rows below those that are left are as they were, and behind them
-- stand those that were joined
pub record AreJoined (rows new : List ℕ) (piece rest : Segment) (places least left : ℕ) (whole : ℕ)
    (first : Segment) : Type 0 where
  pub count : length new ≡ length rows
  pub low : left ≤ whole
  pub at : rest.start ≡ piece.start + left * places
  pub below : SameBelow rows new (piece.start + left * places)
  pub stands : (classes : List Class) (a b : Automaton) → places ≡ length a.places
      → StandCopies rows classes piece whole a → IsSegmentOf rows classes first b
      → (c : Automaton) × IsSegmentOf new classes rest c
      × (before_rest least left a c ≡ before_rest least whole a b)

pub none_joined : (rows : List ℕ) (piece rest : Segment) (places least whole : ℕ)
    → rest.start ≡ piece.start + whole * places → AreJoined rows rows piece rest places least whole
    whole rest
none_joined rows piece rest places least whole e = record {
  count = refl;
  low = omega arith;
  at = e;
  below = λ p k l. refl;
  stands = λ classes a b n s t. (b, t, refl);
}

pub copy_within : (rows : List ℕ) (piece : Segment) (places copies left : ℕ)
    → CanCopy rows piece places copies → left < copies →
    (p : ℕ) → in_word (further piece (left * places)).last p ≡ true
    → (piece.start + left * places ≤ p) × (p < piece.start + left * places + places)
copy_within rows piece places copies left can l p t =
    moved_within piece.start (left * places) piece.last places can.within p t

pub one_joined : (rows new newer : List ℕ) (piece rest made first copy : Segment)
    (places least left before whole : ℕ) (stop : Bool) →
    CanCopy rows piece places whole →
    left + 1 ≡ before → before ≤ whole → stop ≡ ((least - left == 0) || piece.holds_empty) →
    copy ≡ further piece (left * places) →
    AreLinked new newer copy.last rest.first → length newer ≡ length new → made.start ≡ copy.start →
    ((classes : List Class) (a b : Automaton) → rest.start ≡ copy.start + length a.places
    → IsSegmentOf new classes copy a → IsSegmentOf new classes rest b
    → IsSegmentOf newer classes made (copy_before stop a b)) →
    AreJoined rows new piece rest places least before whole first →
    AreJoined rows newer piece made places least left whole first
one_joined rows new newer piece rest made first copy places least left before whole stop can e l s q
    h n m f j = record {
      count = n ∙ j.count;
      low = omega arith;
      at = m ∙ ap (λ (w : Segment). w.start) q;
      below = below_again rows new newer (piece.start + before * places)
          (piece.start + left * places)
          (let g = more in omega arith) j.below
          (linked_below new newer copy.last rest.first (piece.start + left * places) h
          (λ p t. (copy_within rows piece places whole left can (omega arith) p
          (subst (λ (w : Segment). in_word w.last p ≡ true) q t)).0));
      stands = λ classes a b p t u. at classes a b p t u (j.stands classes a b p t u);
    }
  where
    more : before * places ≡ left * places + places
    more = ap (λ i. i * places) (sym e)
        ∙ (let g : (left + 1) * places ≡ left * places + places = grind arith in g)

    at : (classes : List Class) (a b : Automaton) → places ≡ length a.places
        → StandCopies rows classes piece whole a → IsSegmentOf rows classes first b →
        (c : Automaton) × IsSegmentOf new classes rest c
        × (before_rest least before a c ≡ before_rest least whole a b) →
        (c : Automaton) × IsSegmentOf newer classes made c
        × (before_rest least left a c ≡ before_rest least whole a b)
    at classes a b p t u (c, v, w) = (
      copy_before stop a c,
      f classes a c
          (j.at ∙ (let g = more in
          let z : copy.start ≡ piece.start + left * places = ap (λ (w : Segment). w.start) q in
          omega arith))
          (subst (λ (w : Segment). IsSegmentOf new classes w a) (sym q) standing)
          v,
      last,
    )
      where
        standing : IsSegmentOf new classes (further piece (left * places)) a
        standing = same_segment rows new (map class_bytes classes) (map class_bytes classes)
            (piece.start + left * places) (piece.first * 2 ^ (left * places) % 2 ^ 64)
            (piece.last * 2 ^ (left * places) % 2 ^ 64) piece.holds_empty piece.is_live a
            (λ i k x y z. j.below i k (let g = more in omega arith)) (λ i x y. refl)
            (subst (λ n. IsSegmentOf rows classes (further piece (left * n)) a) (sym p)
            (t left (omega arith)))

        stops : piece.holds_empty ≡ a.holds_empty
        stops = (t left (omega arith)).empty

        last : before_rest least left a (copy_before stop a c) ≡ before_rest least whole a b
        last = ap (λ v. before_rest least left a (copy_before v a c))
            (s ∙ ap (λ v. (least - left == 0) || v) stops)
            ∙ ap (λ n. before_rest least n a c) (let g : suc left ≡ before = omega arith in g) ∙ w

-- what is joined while the least number of copies is asked of those that are left
pub counted_stand : (least most places : ℕ) (rows new : List ℕ) (classes : List Class)
    (piece end whole : Segment) (a : Automaton) →
    end ≡ record {
      start = piece.start + most * places;
      first = 0;
      last = 0;
      holds_empty = true;
      is_live = true;
    } →
    ((b : Automaton) → places ≡ length a.places → StandCopies rows classes piece most a
    → IsSegmentOf rows classes end b
    → IsSegmentOf new classes whole (before_rest least most a b)) →
    places ≡ length a.places → StandCopies rows classes piece most a
    → IsSegmentOf new classes whole (copies least most a)
counted_stand least most places rows new classes piece end whole a e f n s =
    subst (IsSegmentOf new classes whole) (all_copies least most a)
    (f (bare true) n s (subst (λ (w : Segment). IsSegmentOf rows classes w (bare true)) (sym e)
    (bare_segment rows (map class_bytes classes) (piece.start + most * places) true)))

endless_by : (least last : ℕ) (a : Automaton) → last + 1 ≡ copies_of least None
    → before_rest least last a (looped ((least == 0) || a.holds_empty) a) ≡ endless least a
endless_by zero last a e = let z : last ≡ 0 = omega arith in rw z refl
endless_by (suc least) last a e =
    let z : (suc least == 0) ≡ false = grind arith in
    all_endless (suc least) last a ((suc least == 0) || a.holds_empty) (omega arith) (e ∙ rw z refl)
    refl

-- the last copy of an endless repeat is linked to itself first
pub endless_stand : (least last places : ℕ) (rows linked new : List ℕ) (classes : List Class)
    (piece copy end whole : Segment) (a : Automaton) →
    last + 1 ≡ copies_of least None →
    CanCopy rows piece places (last + 1) →
    copy ≡ further piece (last * places) →
    AreLinked rows linked copy.last copy.first →
    ((a : Automaton) → IsSegmentOf rows classes copy a
    → IsSegmentOf linked classes end (looped ((least == 0) || piece.holds_empty) a)) →
    ((b : Automaton) → places ≡ length a.places → StandCopies linked classes piece last a
    → IsSegmentOf linked classes end b
    → IsSegmentOf new classes whole (before_rest least last a b)) →
    places ≡ length a.places → StandCopies rows classes piece (last + 1) a
    → IsSegmentOf new classes whole (endless least a)
endless_stand least last places rows linked new classes piece copy end whole a e can q h f g n s =
    subst (IsSegmentOf new classes whole)
    (ap (λ v. before_rest least last a (looped ((least == 0) || v) a)) stops
    ∙ endless_by least last a e)
    (g (looped ((least == 0) || piece.holds_empty) a) n others
    (f a (subst (λ (w : Segment). IsSegmentOf rows classes w a) (sym q)
    (subst (λ m. IsSegmentOf rows classes (further piece (last * m)) a) (sym n)
    (s last (omega arith))))))
  where
    stops : piece.holds_empty ≡ a.holds_empty
    stops = (s last (omega arith)).empty

    below : SameBelow rows linked (piece.start + last * places)
    below = linked_below rows linked copy.last copy.first (piece.start + last * places) h
        (λ p t. (copy_within rows piece places (last + 1) last can (omega arith) p
        (subst (λ (w : Segment). in_word w.last p ≡ true) q t)).0)

    others : StandCopies linked classes piece last a
    others c l =
        let b : c * length a.places + length a.places ≤ last * length a.places =
        row_within c last (length a.places) l in
        let m : last * places ≡ last * length a.places = ap (λ i. last * i) n in
        same_segment rows linked (map class_bytes classes) (map class_bytes classes)
        (piece.start + c * length a.places) (piece.first * 2 ^ (c * length a.places) % 2 ^ 64)
        (piece.last * 2 ^ (c * length a.places) % 2 ^ 64) piece.holds_empty piece.is_live a
        (λ p k u v w. below p k (omega arith)) (λ p u v. refl) (s c (omega arith))

pub endless_below : (least last places : ℕ) (rows linked : List ℕ) (piece copy : Segment) →
    CanCopy rows piece places (last + 1) → copy ≡ further piece (last * places)
    → AreLinked rows linked copy.last copy.first →
    SameBelow rows linked piece.start
endless_below least last places rows linked piece copy can q h =
    linked_below rows linked copy.last copy.first piece.start h
    (λ p t. let w = (copy_within rows piece places (last + 1) last can (omega arith) p
    (subst (λ (w : Segment). in_word w.last p ≡ true) q t)).0 in omega arith)

-- room for copies is room for fewer, in as many rows
pub fewer_copies : (rows new : List ℕ) (piece : Segment) (places copies fewer : ℕ) → fewer ≤ copies
    → length new ≡ length rows → CanCopy rows piece places copies → CanCopy new piece places fewer
fewer_copies rows new piece places copies fewer l n can = record {
  some = can.some;
  few = let f = can.few in omega arith;
  room = let r = can.room in let m : fewer * places ≤ copies * places = grind arith in omega arith;
  within = can.within;
}

-- what grew by the copies of the piece that stands last has room for all of them
pub grown_room : (rows new : List ℕ) (classes others : List Class) (piece : Segment)
    (places more copies : ℕ) →
    more + 1 ≡ copies → IsLastPiece rows classes piece places
    → AreGrown places rows new classes others (more * places) → piece.start + copies * places
    ≤ 63 →
    CanCopy new piece places copies × (length new ≡ piece.start + copies * places)
grown_room rows new classes others piece places more copies e last g few =
    let f : copies * places ≡ more * places + places = ap (λ i. i * places) (sym e)
    ∙ (let h : (more + 1) * places ≡ more * places + places = grind arith in h) in
    let n = last.count in
    let m : length new ≡ length rows + more * places = g.count in (
      record { some = last.some; few = omega arith; room = omega arith; within = last.within },
      omega
          arith,
    )

pub grown_stand : (rows new : List ℕ) (classes others : List Class) (piece : Segment)
    (places more copies : ℕ) (a : Automaton) →
    more + 1 ≡ copies → IsLastPiece rows classes piece places
    → AreGrown places rows new classes others (more * places) → piece.start + copies * places
    ≤ 63 →
    places ≡ length a.places → IsSegmentOf rows classes piece a
    → StandCopies new others piece copies a
grown_stand rows new classes others piece places more copies a e last g few n s =
    let r = (grown_room rows new classes others piece places more copies e last g few) in
    let m = r.0.few in
    subst (λ k. StandCopies new others piece k a) e
    (copies_stand rows new classes others piece more a
    (subst (λ k. AreGrown k rows new classes others (more * k)) n g)
    (last.count ∙ ap (λ k. piece.start + k) n) last.even m s)

-- the piece is repeated, and what stands before it is as it was
pub repeated_places : (rows grown new : List ℕ) (classes others : List Class)
    (piece whole : Segment) (places more copies : ℕ) →
    more + 1 ≡ copies → IsLastPiece rows classes piece places → AreGrown places rows grown classes
    others (more * places) → piece.start + copies * places ≤ 63 →
    length new ≡ length grown → whole.start ≡ piece.start → SameBelow grown new piece.start →
    AreRepeated rows new classes others piece whole (copies * places)
repeated_places rows grown new classes others piece whole places more copies e last g few n b s =
    let r = grown_room rows grown classes others piece places more copies e last g few in
    let m = last.count in
    record {
      count = n ∙ r.1;
      even = g.counted ∙ (let u = last.even in let v = g.count in omega arith);
      begins = b;
      below = λ p k l. s p k l ∙ ap (λ w. in_word w k) (g.kept p (omega arith));
      took = λ p l. g.took p (let u = last.even in omega arith);
    }

-- once all copies are joined
pub all_joined : (rows new : List ℕ) (piece rest first : Segment) (places least left whole : ℕ)
    → left ≡ 0 → AreJoined rows new piece rest places least left whole first →
    (classes : List Class) (a b : Automaton) → places ≡ length a.places
    → StandCopies rows classes piece whole a → IsSegmentOf rows classes first b
    → IsSegmentOf new classes rest (before_rest least whole a b)
all_joined rows new piece rest first places least left whole z j classes a b n s t =
    let r = (subst (λ k. AreJoined rows new piece rest places least k whole first) z j).stands
    classes a b n s t in
    subst (IsSegmentOf new classes rest) r.2 r.1

pub joined_start : (rows new : List ℕ) (piece rest first : Segment) (places least left whole : ℕ)
    → left ≡ 0 → AreJoined rows new piece rest places least left whole first
    → rest.start ≡ piece.start
joined_start rows new piece rest first places least left whole z j =
    let e = (subst (λ k. AreJoined rows new piece rest places least k whole first) z j).at in
    omega arith

pub joined_below : (rows new : List ℕ) (piece rest first : Segment) (places least left whole : ℕ)
    → left ≡ 0 → AreJoined rows new piece rest places least left whole first
    → SameBelow rows new piece.start
joined_below rows new piece rest first places least left whole z j p k l =
    (subst (λ n. AreJoined rows new piece rest places least n whole first) z j).below p k
    (omega arith)

-- a copy stands below the end of all of them
pub copy_room : (rows : List ℕ) (piece : Segment) (places copies left : ℕ)
    → CanCopy rows piece places copies → left < copies → piece.start + left * places + places
    ≤ length rows
copy_room rows piece places copies left can l =
    let r = can.room in
    let b : left * places + places ≤ copies * places = row_within left copies places l in
    omega arith

pub copy_below : (rows new : List ℕ) (piece copy : Segment) (places copies left : ℕ)
    → CanCopy rows piece places copies → left < copies → length new ≡ length rows
    → copy ≡ further piece (left * places) → (p : ℕ) → in_word copy.last p ≡ true → p < length new
copy_below rows new piece copy places copies left can l n q p t =
    let w = (copy_within rows piece places copies left can l p
    (subst (λ (w : Segment). in_word w.last p ≡ true) q t)).1 in
    let r = copy_room rows piece places copies left can l in
    omega arith

pub some_copies : (least : ℕ) → 0 < copies_of least None
some_copies zero = omega arith
some_copies (suc least) = let z : (suc least == 0) ≡ false = grind arith in rw z (omega arith)

-- an endless repeat, whose last copy was linked to itself before the others were joined
pub endless_whole : (least copies places : ℕ) (rows linked new : List ℕ) (classes : List Class)
    (piece copy end whole : Segment) (stop : Bool) (a : Automaton) →
    stop ≡ ((least == 0) || piece.holds_empty) →
    copies ≡ copies_of least None →
    CanCopy rows piece places copies →
    copy ≡ further piece ((copies - 1) * places) →
    AreLinked rows linked copy.last copy.first →
    ((a : Automaton) → IsSegmentOf rows classes copy a
    → IsSegmentOf linked classes end (looped stop a)) →
    ((b : Automaton) → places ≡ length a.places → StandCopies linked classes piece (copies - 1) a
    → IsSegmentOf linked classes end b
    → IsSegmentOf new classes whole (before_rest least (copies - 1) a b)) →
    places ≡ length a.places → StandCopies rows classes piece copies a
    → IsSegmentOf new classes whole (endless least a)
endless_whole least copies places rows linked new classes piece copy end whole stop a v e can q h f
    g n s =
    let m = some_copies least in
    let k : copies ≡ copies - 1 + 1 = omega arith in
    endless_stand least (copies - 1) places rows linked new classes piece copy end whole a
    (sym k ∙ e)
    (subst (CanCopy rows piece places) k can) q h
    (λ x t. subst (λ w. IsSegmentOf linked classes end (looped w x)) v (f x t)) g n
    (subst (λ i. StandCopies rows classes piece i a) k s)

pub endless_whole_below : (least copies places : ℕ) (rows linked new : List ℕ)
    (piece copy : Segment) →
    copies ≡ copies_of least None → CanCopy rows piece places copies
    → copy ≡ further piece ((copies - 1) * places) →
    AreLinked rows linked copy.last copy.first → SameBelow linked new piece.start
    → SameBelow rows new piece.start
endless_whole_below least copies places rows linked new piece copy e can q h b =
    let m = some_copies least in
    let k : copies ≡ copies - 1 + 1 = omega arith in
    below_again rows linked new piece.start piece.start (omega arith)
    (endless_below least (copies - 1) places rows linked piece copy
    (subst (CanCopy rows piece places) k can) q h) b

-- of what was repeated, what it stands for
pub repeated_stands : (rows grown new : List ℕ) (classes others : List Class)
    (piece whole : Segment) (places more copies : ℕ) (a made : Automaton) →
    more + 1 ≡ copies → IsLastPiece rows classes piece places → AreGrown places rows grown classes
    others (more * places) → piece.start + copies * places ≤ 63 →
    (places ≡ length a.places → StandCopies grown others piece copies a
    → IsSegmentOf new others whole made) →
    places ≡ length a.places → IsSegmentOf rows classes piece a → IsSegmentOf new others whole made
repeated_stands rows grown new classes others piece whole places more copies a made e last g few f n
    s =
    f n (grown_stand rows grown classes others piece places more copies a e last g few n s)
