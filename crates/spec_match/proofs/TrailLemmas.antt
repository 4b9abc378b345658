-- The trail of the text that was read last.
use Rattle.std.proofs.Common.{◌≡◌, ◌∙◌, refl, sym, ap, subst, ℕ, zero, suc, ◌+◌, ◌-◌, ◌*◌, ◌<◌, ◌≤◌}
use Rattle.std.proofs.Common.{inl, inr, min, Bool, true, false, List, [], ◌∷◌, ◌++◌, length}
use Rattle.std.proofs.Common.{length-drop, length-take, length-set, get_or, get_or-set_same}
use Rattle.std.proofs.Common.{get_or-set_other, get_or-take, set, slice_index, take, drop}
use Rattle.std.proofs.Common.{if◌then◌else◌, nat_lt, arith}
use Rattle.std.proofs.lemmas.Bool.{cases_lt}
use Rattle.std.proofs.Math.Seq.{take-add}
use Rattle.std.proofs.lemmas.Bool.Decides.{nat_tests}
use Rattle.std.proofs.lemmas.List.{get_or-drop, take_all, take-append-drop}
use Rattle.spec_match.proofs.ChainLemmas.{before_or_last}
use Rattle.pattern_match.specs.Onwards.{AreTextBytes}
use Rattle.spec_match.specs.Alive.{Alive, alive_list}
use Rattle.spec_match.specs.Listed.{Stays}
use Rattle.spec_match.specs.Remembering.{HasStep, IsGrown, IsStep, Remembers}
use Rattle.spec_match.specs.Trail.{AreRightTo, IsOnWay, IsTrailRead, IsRightAt, IsTrail, Trace}
use Rattle.spec_match.specs.Trail.{list_behind}
use Rattle.spec_match.proofs.AliveLemmas.{read_more}
use Rattle.spec_match.proofs.TableLemmas.{grown_by, grown_longer, step_known}

pub no_trail : (IsFor : List ℕ → List Alive → Type 0) (lists : List (List Alive)) (trace : Trace)
    → trace.known ≡ 0 → IsTrail IsFor lists trace
no_trail IsFor lists trace none = record {
  short = omega (arith, none);
  right = λ k l n. absurd (omega (arith, l, none));
}

take_twice : {X : Type 0} (m n : ℕ) (xs : List X) → m ≤ n → take m (take n xs) ≡ take m xs
take_twice zero n xs l = refl
take_twice (suc m) zero xs l = absurd (omega (arith, l))
take_twice (suc m) (suc n) [] l = refl
take_twice (suc m) (suc n) (x ∷ xs) l = ap (λ ys. x ∷ ys) (take_twice m n xs (omega (arith, l)))

-- texts with the same front have the same lesser fronts
pub same_before : (m n : ℕ) (xs ys : List ℕ) → m ≤ n → take n xs ≡ take n ys → take m xs ≡ take m ys
same_before m n xs ys l e = sym (take_twice m n xs l) ∙ ap (take m) e ∙ take_twice m n ys l

right_grown : (IsFor : List ℕ → List Alive → Type 0) (old new : List (List Alive))
    (text numbers : List ℕ) (count : ℕ) → IsGrown old new → AreRightTo IsFor old text numbers count
    → AreRightTo IsFor new text numbers count
right_grown IsFor old new text numbers count g t = λ k l n. let r = t k l n in record {
  within = omega (arith, r.within, grown_longer old new g);
  listed = subst (λ list. IsFor (take (suc k) text) list)
      (sym (grown_by old new (slice_index numbers k) g r.within)) r.listed;
}

right_in : (IsFor : List ℕ → List Alive → Type 0) (lists : List (List Alive)) (a b numbers : List ℕ)
    (n count : ℕ) → count ≤ n → take n a ≡ take n b → AreRightTo IsFor lists a numbers count
    → AreRightTo IsFor lists b numbers count
right_in IsFor lists a b numbers n count l e t = λ k h m. let r = t k h m in record {
  within = r.within;
  listed = subst (λ w. IsFor w (alive_list lists (slice_index numbers k)))
      (same_before (suc k) n a b (omega (arith, h, l)) e) r.listed;
}

right_less : (IsFor : List ℕ → List Alive → Type 0) (lists : List (List Alive))
    (text numbers : List ℕ) (m n : ℕ) → m ≤ n → AreRightTo IsFor lists text numbers n
    → AreRightTo IsFor lists text numbers m
right_less IsFor lists text numbers m n l t = λ k h i. t k (omega (arith, h, l)) i

pub read_grown : (IsFor : List ℕ → List Alive → Type 0) (old new : List (List Alive))
    (text numbers : List ℕ) (at list : ℕ) → IsGrown old new → IsTrailRead IsFor old text numbers at
    list → AreRightTo IsFor new text numbers at
read_grown IsFor old new text numbers at list g r =
    right_grown IsFor old new text numbers at g r.right

-- the list from which a text is read on
pub begun : (IsFor : List ℕ → List Alive → Type 0) (lists : List (List Alive)) (text : List ℕ)
    (old new : Trace) (n : ℕ)
    → n ≤ old.known → n ≤ length old.lists → n ≤ length text → take n old.text ≡ take n text
    → 0 < length lists → IsFor [] (alive_list lists 0)
    → new.lists ≡ old.lists → new.known ≡ n → n ≤ length new.text
    → new.text ≡ take (length new.text) text
    → IsTrail IsFor lists old → IsOnWay IsFor lists text new n (list_behind old.lists n)
begun IsFor lists text old new n known room inside same some first lists_are known_is short text_is
    trail = record {
      read = record {
        inside = inside;
        within = (start n room known same).0;
        listed = (start n room known same).1;
        right = subst (λ ns. AreRightTo IsFor lists text ns n) (sym lists_are)
            (right_in IsFor lists old.text text old.lists n n (omega arith) same
            (right_less IsFor lists old.text old.lists n old.known known trail.right));
      };
      same = text_is;
      short = omega (arith, known_is, short);
      low = omega (arith, known_is);
    }
  where
    start : (m : ℕ) → m ≤ length old.lists → m ≤ old.known → take m old.text ≡ take m text
        → (list_behind old.lists m < length lists)
        × IsFor (take m text) (alive_list lists (list_behind old.lists m))
    start zero r k e = (some, first)
    start (suc m) r k e =
        let a = trail.right m (omega (arith, k)) (omega (arith, r)) in
        (a.within, subst (λ w. IsFor w (alive_list lists (slice_index old.lists m))) e a.listed)

noted_at : (numbers : List ℕ) (i v k : ℕ) → k < i → slice_index (set numbers i v) k ≡ slice_index
    numbers k
noted_at numbers i v k l = get_or-set_other numbers i k v 0 (λ e. omega (arith, l, e))

-- the text is read by a byte more, whose list is noted where there is room for it
pub read_more_by : (IsFor : List ℕ → List Alive → Type 0) (lists : List (List Alive))
    (text old new : List ℕ) (i list : ℕ) (has_room : Bool)
    → ((has_room ≡ true → i < length old) × (has_room ≡ false → length old ≤ i))
    → i < length text → list < length lists → IsFor (take i text ++ get_or text i 0 ∷ [])
    (alive_list lists list)
    → new ≡ (if has_room then set old i list else old)
    → AreRightTo IsFor lists text old i → IsTrailRead IsFor lists text new (i + 1) list
read_more_by IsFor lists text old new i list has_room room l w a e t = record {
  inside = omega (arith, l);
  within = w;
  listed = whole;
  right = subst (λ ns. AreRightTo IsFor lists text ns (i + 1)) (sym e)
      (right has_room room.0 room.1);
}
  where
    whole : IsFor (take (i + 1) text) (alive_list lists list)
    whole = read_more IsFor text i (alive_list lists list) l a

    right : (has : Bool) → (has ≡ true → i < length old) → (has ≡ false → length old ≤ i)
        → AreRightTo IsFor lists text (if has then set old i list else old) (i + 1)
    right true here _ = λ k h n. elim (before_or_last k i h) [
      | inl before ↦ (let r = t k before (omega (arith, n, length-set old i list)) in record {
        within = subst (λ j. j < length lists) (sym (noted_at old i list k before)) r.within;
        listed = subst (λ j. IsFor (take (suc k) text) (alive_list lists j))
            (sym (noted_at old i list k before)) r.listed;
      })
      | inr last ↦ subst (λ j. IsRightAt IsFor lists text (set old i list) j) last (record {
        within = subst (λ j. j < length lists) (sym (get_or-set_same old i list 0 (here refl))) w;
        listed = subst (λ j. IsFor (take (suc i) text) (alive_list lists j))
            (sym (get_or-set_same old i list 0 (here refl)))
            (let next : i + 1 ≡ suc i = omega arith in
            subst (λ m. IsFor (take m text) (alive_list lists list)) next whole);
      })
    ]
    right false _ none = λ k h n. t k (omega (arith, n, none refl)) n

-- a step that is known
pub read_known : (IsFor : List ℕ → List Alive → Type 0) (lists : List (List Alive))
    (next text old new : List ℕ) (i from to : ℕ) (has_room : Bool)
    → ((has_room ≡ true → i < length old) × (has_room ≡ false → length old ≤ i))
    → i < length text → get_or text i 0 < 256 → from < length lists
    → length next ≡ 256 * length lists
    → to ≡ slice_index next (256 * from + get_or text i 0) → 0 < to
    → new ≡ (if has_room then set old i to else old)
    → Remembers (IsStep IsFor lists) next → IsTrailRead IsFor lists text old i from
    → IsTrailRead IsFor lists text new (i + 1) to
read_known IsFor lists next text old new i from to has_room room l b f rows e some n steps r =
    let step : HasStep IsFor lists from (get_or text i 0) to =
    step_known IsFor lists next from (get_or text i 0) to steps f b rows e some in
    read_more_by IsFor lists text old new i to has_room room l step.to_within
    (step.leads (take i text) r.listed) n r.right

-- texts that go on with the same bytes behind the same front
pub take_both : (n m : ℕ) (xs ys : List ℕ) → take n xs ≡ take n ys
    → take m (drop n xs) ≡ take m (drop n ys) → take (n + m) xs ≡ take (n + m) ys
take_both n m xs ys e h = take-add n m xs ∙ (λ i. e i ++ h i) ∙ sym (take-add n m ys)

pub numbers_within : (IsFor : List ℕ → List Alive → Type 0) (lists : List (List Alive))
    (next : List ℕ) → Remembers (IsStep IsFor lists) next → 0 < length lists → (p : ℕ)
    → slice_index next p < length lists
numbers_within IsFor lists next steps some p = at (slice_index next p) refl
  where
    at : (n : ℕ) → slice_index next p ≡ n → slice_index next p < length lists
    at zero e = omega (arith, e, some)
    at (suc v) e = let w = (steps.entry p v e).to_within in omega (arith, e, w)

pub room_for : (i n : ℕ) → (nat_lt i n ≡ true → i < n) × (nat_lt i n ≡ false → n ≤ i)
room_for i n = ((λ e. grind (arith, nat_tests)), (λ e. grind (arith, nat_tests)))

pub trail_of_way : (IsFor : List ℕ → List Alive → Type 0) (lists : List (List Alive))
    (text : List ℕ) (trace : Trace) (at list : ℕ) → IsOnWay IsFor lists text trace at list
    → IsTrail IsFor lists trace
trail_of_way IsFor lists text trace at list way =
    let whole : take (length trace.text) text ≡ take (length trace.text) trace.text = sym way.same
    ∙ sym (take_all (length trace.text) trace.text (omega arith)) in record {
      short = way.short;
      right = right_in IsFor lists text trace.text trace.lists (length trace.text) trace.known
          way.short whole (right_less IsFor lists text trace.lists trace.known at way.low
          way.read.right);
    }

-- what was read stays known where lists were added
pub trail_grown : (IsFor : List ℕ → List Alive → Type 0) (old new : List (List Alive))
    (text : List ℕ) (trace : Trace) (at list : ℕ) → IsGrown old new
    → IsOnWay IsFor old text trace at list → IsTrail IsFor new trace
trail_grown IsFor old new text trace at list g way =
    let trail = trail_of_way IsFor old text trace at list way in record {
      short = trail.short;
      right = right_grown IsFor old new trace.text trace.lists trace.known g trail.right;
    }

-- the way by a byte more
pub way_more : (IsFor : List ℕ → List Alive → Type 0) (old new : List (List Alive)) (text : List ℕ)
    (trace : Trace) (numbers : List ℕ) (at list to : ℕ)
    → IsGrown old new → at < length text → to < length new
    → IsFor (take at text ++ get_or text at 0 ∷ []) (alive_list new to)
    → numbers ≡ (if nat_lt at (length trace.lists) then set trace.lists at to else trace.lists)
    → IsOnWay IsFor old text trace at list
    → IsOnWay IsFor new text
    (record { text = trace.text; lists = numbers; known = trace.known }) (at + 1) to
way_more IsFor old new text trace numbers at list to g l w a e way = record {
  read = read_more_by IsFor new text trace.lists numbers at to (nat_lt at (length trace.lists))
      (room_for at (length trace.lists)) l w a e
      (read_grown IsFor old new text trace.lists at list g way.read);
  same = way.same;
  short = way.short;
  low = omega (arith, way.low);
}

-- the way as far as it was followed
pub way_followed : (IsFor : List ℕ → List Alive → Type 0) (lists : List (List Alive))
    (text : List ℕ) (old new : Trace) (from at list to : ℕ)
    → from ≤ at → new.text ≡ old.text → new.known ≡ min at (length old.text)
    → IsOnWay IsFor lists text old from list
    → IsTrailRead IsFor lists text new.lists at to → IsOnWay IsFor lists text new at to
way_followed IsFor lists text old new from at list to l text_is known way read = record {
  read = read;
  same = subst (λ w. w ≡ take (length w) text) (sym text_is) way.same;
  short = omega (arith, known, ap (λ (w : List ℕ). length w) text_is);
  low = omega (arith, known);
}

-- a text's front, and then as much of the rest as there is room for
pub front_taken : (old text cut new rest : List ℕ) (start : ℕ) → start ≤ length old
    → start ≤ length text → take start old ≡ take start text → cut ≡ take start old
    → rest ≡ drop start text → length cut ≤ length new
    → ((n : ℕ) → length new ≡ length cut + n → new ≡ cut ++ take n rest)
    → new ≡ take (length new) text
front_taken old text cut new rest start o t same is behind grown front =
    let n = length new - length cut in
    let count : length cut ≡ start =
    omega (arith, o, length-take start old, ap (λ (w : List ℕ). length w) is) in
    let all : length new ≡ length cut + n = omega (arith, grown) in
    let whole : start + n ≡ length new = omega (arith, count, all) in
    front n all
    ∙ (λ i. (is ∙ same) i ++ take n (behind i))
    ∙ sym (take-add start n text)
    ∙ ap (λ m. take m text) whole

-- an entry of a table by its column
pub column_at : (next : List ℕ) (byte list : ℕ)
    → get_or (take (length next - byte) (drop byte next)) (256 * list) 0 ≡ get_or next
    (256 * list + byte) 0
column_at next byte list =
    ap (λ w. get_or w (256 * list) 0)
    (take_all (length next - byte) (drop byte next) (omega (arith, length-drop byte next)))
    ∙ get_or-drop byte next (256 * list) 0
    ∙ ap (λ k. get_or next k 0) (omega arith)

-- bytes of which each is above 0
pub bytes_of : (text : List ℕ)
    → ((j : ℕ) → j < length text → (0 < get_or text j 0) × (get_or text j 0 < 256))
    → AreTextBytes text
bytes_of [] f = tt
bytes_of (b ∷ text) f = (
  (f 0 (omega arith)).0,
  (f 0 (omega arith)).1,
  bytes_of text
      (λ j l. f (suc j) (omega (arith, l))),
)

-- a list that is for a front of a text, and stays, is for the text
pub stays_behind : (IsFor : List ℕ → List Alive → Type 0) (text : List ℕ) (at : ℕ)
    (list : List Alive) → Stays IsFor list → at ≤ length text
    → AreTextBytes (take (length text - at) (drop at text)) → IsFor (take at text) list
    → IsFor text list
stays_behind IsFor text at list s l b h =
    let left : take (length text - at) (drop at text) ≡ drop at text =
    take_all (length text - at) (drop at text) (omega (arith, l, length-drop at text)) in
    subst (λ w. IsFor w list) (take-append-drop at text)
    (s (take at text) (drop at text) (subst AreTextBytes left b) h)

-- a list that is for as much as a whole text
pub listed_to_end : (IsFor : List ℕ → List Alive → Type 0) (text : List ℕ) (at : ℕ)
    (list : List Alive) → length text ≤ at → IsFor (take at text) list → IsFor text list
listed_to_end IsFor text at list l h = subst (λ w. IsFor w list) (take_all at text l) h

-- each byte of a text is above 0
pub each_byte : (text : List ℕ) (j : ℕ) → j < length text → AreTextBytes text
    → 0 < get_or text j 0
each_byte [] j l a = absurd (omega (arith, l))
each_byte (b ∷ text) zero l a = a.0
each_byte (b ∷ text) (suc j) l a = each_byte text j (omega (arith, l)) a.2

pub positive : (n : ℕ) → 0 < n → nat_lt 0 n ≡ true
positive n p = grind (arith, nat_tests)

-- texts with the same front have the same bytes in it
pub front_byte : (a b : List ℕ) (i k : ℕ) → take k a ≡ take k b → i < k
    → get_or a i 0 ≡ get_or b i 0
front_byte a b i k e l =
    sym (get_or-take k a i 0 l) ∙ ap (λ w. get_or w i 0) e ∙ get_or-take k b i 0 l

-- no longer front is the same than up to where bytes differ
pub differs_at : (a b : List ℕ) (i k : ℕ) → (get_or a i 0 ≡ get_or b i 0 → ⊥)
    → take k a ≡ take k b → k ≤ i
differs_at a b i k d e = elim (cases_lt i k) [
  | inl before ↦ absurd (d (front_byte a b i k e before))
  | inr after ↦ after
]
