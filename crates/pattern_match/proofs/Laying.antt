-- What is laid, with a segment more, or others in place of the last.
use Rattle.std.proofs.Common.{◌≡◌, refl, sym, ◌∙◌, ap, subst, ℕ, zero, suc, ◌+◌, ◌-◌, ◌*◌, ◌%◌, ◌^◌}
use Rattle.std.proofs.Common.{◌<◌, ◌≤◌, ◌==◌, true, false, List, [], ◌∷◌, ◌++◌, length, map, get_or}
use Rattle.std.proofs.Common.{Option, Some, None, arith, length-append}
use Rattle.std.specs.Prelude.{reverse}
use Rattle.std.proofs.lemmas.Nat.Bits.{bit_at-zero, bit_at-suc}
use Rattle.std.proofs.lemmas.List.{length-map, map-append, reverse-append, get_or_append_left}
use Rattle.std.proofs.lemmas.List.{get_or_push}
use Rattle.pattern_match.specs.Residuals.{is_some_list, is_count}
use Rattle.pattern_match.specs.Automaton.{Automaton, bare, single_place, both, both_live}
use Rattle.pattern_match.specs.Automaton.{either_automaton, repeated_automaton, repeat_places}
use Rattle.pattern_match.specs.Automaton.{moved}
use Rattle.pattern_match.specs.Class.{class_bytes}
use Rattle.pattern_match.specs.Segments.{in_word, among, IsSegment}
use Rattle.pattern_match.specs.Layouts.{IsSegmentOf, AreSegments, IsLaid, AreLinked, IsLastPiece}
use Rattle.pattern_match.specs.Layouts.{AreRepeated, copies_of}
use Rattle.pattern_match.specs.declared.class.Class.{Class}
use Rattle.pattern_match.specs.declared.segment.Segment.{Segment}
use Rattle.pattern_match.proofs.SegmentWords.{moved_word, word_above}
use Rattle.pattern_match.proofs.Segments.{bare_segment, many_turned, moved_within}
use Rattle.pattern_match.proofs.Repeats.{segments_stay, linked_below, many_copies, many_looped}
use Rattle.pattern_match.proofs.Repeats.{many_endless}

-- what the last segment stands for, and those before it
pub record IsTop (rows : List ℕ) (classes : List Class) (front : List Segment) (s : Segment)
    (automata : List Automaton) : Type 0 where
  pub one : Automaton
  pub others : List Automaton
  pub all : automata ≡ one ∷ others
  pub stands : IsSegmentOf rows classes s one
  pub count : length rows ≡ s.start + length one.places
  pub before : AreSegments rows classes (reverse front) others s.start

top_at : (rows : List ℕ) (classes : List Class) (front : List Segment) (s : Segment)
    (automata : List Automaton) (end : ℕ) → end ≡ length rows
    → AreSegments rows classes (s ∷ reverse front) automata end
    → IsTop rows classes front s automata
top_at rows classes front s [] end e h = absurd h
top_at rows classes front s (a ∷ others) end e h =
    record { one = a; others = others; all = refl; stands = h.0; count = sym e ∙ h.1; before = h.2 }

pub top : (rows : List ℕ) (classes : List Class) (segments front : List Segment) (s : Segment)
    (automata : List Automaton) → segments ≡ front ++ s ∷ [] → IsLaid rows classes segments automata
    → IsTop rows classes front s automata
top rows classes segments front s automata e h =
    top_at rows classes front s automata (length rows) refl
    (subst (λ w. AreSegments rows classes w automata (length rows))
    (ap reverse e ∙ reverse-append front (s ∷ [])) h.segments_are)

-- the last segment but one
pub record IsSecond (rows : List ℕ) (classes : List Class) (front : List Segment) (s : Segment)
    (middle : ℕ) (automata : List Automaton) : Type 0 where
  pub one : Automaton
  pub others : List Automaton
  pub all : automata ≡ one ∷ others
  pub stands : IsSegmentOf rows classes s one
  pub count : middle ≡ s.start + length one.places
  pub before : AreSegments rows classes (reverse front) others s.start

second_at : (rows : List ℕ) (classes : List Class) (front : List Segment) (s : Segment) (middle : ℕ)
    (automata : List Automaton) → AreSegments rows classes (s ∷ reverse front) automata middle
    → IsSecond rows classes front s middle automata
second_at rows classes front s middle [] h = absurd h
second_at rows classes front s middle (a ∷ others) h =
    record { one = a; others = others; all = refl; stands = h.0; count = h.1; before = h.2 }

pub second : (rows : List ℕ) (classes : List Class) (segments front : List Segment) (s : Segment)
    (middle : ℕ) (automata : List Automaton) → segments ≡ front ++ s ∷ []
    → AreSegments rows classes (reverse segments) automata middle
    → IsSecond rows classes front s middle automata
second rows classes segments front s middle automata e h =
    second_at rows classes front s middle automata
    (subst (λ w. AreSegments rows classes w automata middle)
    (ap reverse e ∙ reverse-append front (s ∷ [])) h)

pub pushed_segment : (rows : List ℕ) (classes : List Class) (made front : List Segment)
    (s : Segment) (a : Automaton) (others : List Automaton) → made ≡ front ++ s ∷ []
    → length rows ≤ 63 → length classes ≡ length rows → IsSegmentOf rows classes s a
    → length rows ≡ s.start + length a.places → AreSegments rows classes (reverse front) others
    s.start → IsLaid rows classes made (a ∷ others)
pushed_segment rows classes made front s a others e few even stands count before = record {
  few = few;
  even = even;
  segments_are = subst (λ w. AreSegments rows classes w (a ∷ others) (length rows))
      (sym (ap reverse e ∙ reverse-append front (s ∷ []))) (stands, count, before);
}

pub nothing_laid : (rows : List ℕ) (classes : List Class) (segments made : List Segment)
    (s : Segment) (automata : List Automaton) →
    s ≡ record { start = length rows; first = 0; last = 0; holds_empty = true; is_live = true }
    → made ≡ segments ++ s ∷ [] →
    IsLaid rows classes segments automata → IsLaid rows classes made (bare true ∷ automata)
nothing_laid rows classes segments made s automata e m h =
    pushed_segment rows classes made segments s (bare true) automata m h.few h.even
    (subst (λ (w : Segment). IsSegmentOf rows classes w (bare true)) (sym e)
    (bare_segment rows (map class_bytes classes) (length rows) true))
    (let f : s.start ≡ length rows = ap (λ (w : Segment). w.start) e in omega arith)
    (subst (λ n. AreSegments rows classes (reverse segments) automata n)
    (sym (ap (λ (w : Segment). w.start) e)) h.segments_are)

one_is : (k : ℕ) → in_word 1 k ≡ among (0 ∷ []) k
one_is zero = refl
one_is (suc k) = ap (λ n. n == 1) (bit_at-suc 1 k ∙ bit_at-zero k)
    ∙ (let e : (0 == suc k) ≡ false = grind arith in rw e refl)

one_within : (p : ℕ) → in_word 1 p ≡ true → (0 ≤ p) × (p < 0 + 1)
one_within zero t = (omega arith, omega arith)
one_within (suc k) t = let c : true ≡ false =
    sym t ∙ ap (λ n. n == 1) (bit_at-suc 1 k ∙ bit_at-zero k) in cc

-- one place more
one_place : (rows : List ℕ) (classes : List Class) (class : Class) (bytes : List ℕ)
    → class_bytes class ≡ bytes → is_some_list bytes ≡ true → length rows < 63
    → length classes ≡ length rows →
    IsSegment (rows ++ 0 ∷ []) (map class_bytes (classes ++ class ∷ [])) (length rows)
    (1 * 2 ^ length rows % 2 ^ 64) (1 * 2 ^ length rows % 2 ^ 64) false true
    (single_place bytes)
one_place rows classes class [] e i few even = cc
one_place rows classes class (b ∷ bs) e i few even = record {
  places = (
    record {
      follows = λ k l. ap (λ w. in_word w k) (get_or_push rows 0 0 (length rows) refl)
          ∙ ap (λ n. n == 1) (bit_at-zero k);
      ends = word_above 1 (length rows) (length rows) (omega arith) (omega arith)
          ∙ ap (in_word 1) (let z : length rows - length rows ≡ 0 = omega arith in z);
      takes = ap (λ w. get_or w (length rows) []) (map-append class_bytes classes (class ∷ []))
          ∙ get_or_push (map class_bytes classes) (class_bytes class) [] (length rows)
          (length-map classes class_bytes ∙ even) ∙ e;
    },
    tt,
  );
  begins = λ k l. moved_word 1 (length rows) (0 ∷ []) (λ j m. one_is j) k l;
  within = λ p t. let w = moved_within 0 (length rows) 1 1 one_within p t in
      (omega arith, omega arith);
  empty = refl;
  live = refl;
}

pub class_laid : (rows : List ℕ) (classes : List Class) (segments made : List Segment)
    (class : Class) (s : Segment) (automata : List Automaton) (new : List ℕ) (others : List Class) →
    new ≡ rows ++ 0 ∷ [] → others ≡ classes ++ class ∷ [] →
    s ≡ record {
      start = length rows;
      first = 1 * 2 ^ length rows % 2 ^ 64;
      last = 1 * 2 ^ length
          rows % 2 ^ 64;
      holds_empty = false;
      is_live = true;
    } → made ≡ segments ++ s ∷ [] →
    is_some_list (class_bytes class) ≡ true → length rows < 63 →
    IsLaid rows classes segments automata
    → IsLaid new others made (single_place (class_bytes class) ∷ automata)
class_laid rows classes segments made class s automata new others e f g m i few h =
    subst (λ w. IsLaid w others made (single_place (class_bytes class) ∷ automata)) (sym e)
    (subst (λ w. IsLaid (rows ++ 0 ∷ []) w made (single_place (class_bytes class) ∷ automata))
    (sym f)
    (pushed_segment (rows ++ 0 ∷ []) (classes ++ class ∷ []) made segments s
    (single_place (class_bytes class)) automata m
    (rw (length-append rows (0 ∷ [])) (omega arith))
    (let u = h.even in rw (length-append rows (0 ∷ []), length-append classes (class ∷ []))
    (omega arith))
    (subst (λ (w : Segment). IsSegmentOf (rows ++ 0 ∷ []) (classes ++ class ∷ []) w
    (single_place (class_bytes class))) (sym g)
    (one_place rows classes class (class_bytes class) refl i few h.even))
    (length-append rows (0 ∷ []) ∙ ap (λ n. n + 1) (sym start)
    ∙ ap (λ n. s.start + n) (sym (one_long (class_bytes class) i)))
    (subst (λ n. AreSegments (rows ++ 0 ∷ []) (classes ++ class ∷ []) (reverse segments) automata n)
    (sym start)
    (segments_stay rows (rows ++ 0 ∷ []) classes (classes ++ class ∷ []) (reverse segments) automata
    (length rows)
    (λ p k l. ap (λ w. in_word w k) (get_or_append_left rows (0 ∷ []) 0 p l))
    (λ p l. ap (λ w. get_or w p []) (map-append class_bytes classes (class ∷ []))
    ∙ get_or_append_left (map class_bytes classes) (class_bytes class ∷ []) [] p
    (let u = length-map classes class_bytes in let v = h.even in omega arith))
    h.segments_are))))
  where
    start : s.start ≡ length rows
    start = ap (λ (w : Segment). w.start) g

    one_long : (bytes : List ℕ) → is_some_list bytes ≡ true → length (single_place bytes).places ≡ 1
    one_long [] t = cc
    one_long (b ∷ bs) t = refl

live_both : (a b : Automaton) → a.is_live ≡ true → b.is_live ≡ true → both_live a b ≡ both a b
live_both a b u v = rw (u, v) refl

-- two parts in turn in place of them
pub both_laid : (rows new : List ℕ) (classes : List Class)
    (segments middle front made : List Segment) (one two whole : Segment) (a b : Automaton)
    (automata : List Automaton) →
    segments ≡ middle ++ two ∷ [] → middle ≡ front ++ one ∷ [] → made ≡ front ++ whole ∷ [] →
    one.is_live ≡ true → two.is_live ≡ true →
    AreLinked rows new one.last two.first → length new ≡ length rows → whole.start ≡ one.start →
    ((a b : Automaton) → two.start ≡ one.start + length a.places → IsSegmentOf rows classes one a
    → IsSegmentOf rows classes two b → IsSegmentOf new classes whole (both_live a b)) →
    IsLaid rows classes segments (b ∷ a ∷ automata) → IsLaid new classes made (both a b ∷ automata)
both_laid rows new classes segments middle front made one two whole a b automata e f g u v h n m s
    l =
    at (subst (λ w. AreSegments rows classes w (b ∷ a ∷ automata) (length rows))
    (ap reverse e ∙ reverse-append middle (two ∷ [])
    ∙ ap (λ w. two ∷ w) (ap reverse f ∙ reverse-append front (one ∷ []))) l.segments_are)
  where
    at : AreSegments rows classes (two ∷ one ∷ reverse front) (b ∷ a ∷ automata) (length rows)
        → IsLaid new classes made (both a b ∷ automata)
    at (p, c, (q, d, r)) = pushed_segment new classes made front whole (both a b) automata g
        (let w = l.few in omega arith) (l.even ∙ sym n)
        (subst (IsSegmentOf new classes whole) (live_both a b (sym q.live ∙ u) (sym p.live ∙ v))
        (s a b d q p))
        (let w : length (both a b).places ≡ length a.places + length b.places = ap
        (λ (x : Automaton). length x.places)
        (sym (live_both a b (sym q.live ∙ u) (sym p.live ∙ v))) ∙ many_turned a b in
        omega arith)
        (subst (λ i. AreSegments new classes (reverse front) automata i) (sym m)
        (segments_stay rows new classes classes (reverse front) automata one.start
        (linked_below rows new one.last two.first one.start h (λ i t. (q.within i t).0))
        (λ i w. refl) r))

pub either_laid : (rows : List ℕ) (classes : List Class) (segments middle front made : List Segment)
    (one two whole : Segment) (a b : Automaton) (automata : List Automaton) →
    segments ≡ middle ++ two ∷ [] → middle ≡ front ++ one ∷ [] → made ≡ front ++ whole ∷ [] →
    whole.start ≡ one.start →
    ((a b : Automaton) → two.start ≡ one.start + length a.places → IsSegmentOf rows classes one a
    → IsSegmentOf rows classes two b → IsSegmentOf rows classes whole (either_automaton a b)) →
    IsLaid rows classes segments (b ∷ a ∷ automata)
    → IsLaid rows classes made (either_automaton a b ∷ automata)
either_laid rows classes segments middle front made one two whole a b automata e f g m s l =
    at (subst (λ w. AreSegments rows classes w (b ∷ a ∷ automata) (length rows))
    (ap reverse e ∙ reverse-append middle (two ∷ [])
    ∙ ap (λ w. two ∷ w) (ap reverse f ∙ reverse-append front (one ∷ []))) l.segments_are)
  where
    at : AreSegments rows classes (two ∷ one ∷ reverse front) (b ∷ a ∷ automata) (length rows)
        → IsLaid rows classes made (either_automaton a b ∷ automata)
    at (p, c, (q, d, r)) = pushed_segment rows classes made front whole (either_automaton a b)
        automata g l.few l.even
        (s a b d q p)
        (let w : length (either_automaton a b).places ≡ length a.places + length
        b.places = length-append a.places (map (moved (length a.places)) b.places)
        ∙ ap (λ n. length a.places + n) (length-map b.places (moved (length a.places))) in
        omega arith)
        (subst (λ i. AreSegments rows classes (reverse front) automata i) (sym m) r)

many_repeated : (least : ℕ) (most : Option ℕ) (a : Automaton)
    → length (repeat_places least most a).places ≡ copies_of least most * length a.places
many_repeated zero None a = many_looped true a
many_repeated (suc least) None a = many_endless (suc least) a (omega arith)
    ∙ (let z : (suc least == 0) ≡ false = grind arith in rw z refl)
many_repeated least (Some most) a = many_copies least most a

pub some_of : (a : Automaton) → 0 < length a.places → is_some_list a.places ≡ true
some_of a l = at a.places l
  where
    at : {X : Type 0} (xs : List X) → 0 < length xs → is_some_list xs ≡ true
    at [] l = absurd (omega arith)
    at (x ∷ xs) l = refl

pub repeat_laid : (rows new : List ℕ) (classes others : List Class)
    (segments front made : List Segment) (piece whole : Segment) (places least : ℕ)
    (most : Option ℕ) (a : Automaton) (automata : List Automaton) →
    segments ≡ front ++ piece ∷ [] → made ≡ front ++ whole ∷ [] → length rows ≡ piece.start + places
    →
    0 < places → is_count least most ≡ true → piece.start + copies_of least most * places ≤ 63 →
    AreRepeated rows new classes others piece whole (copies_of least most * places) →
    ((a : Automaton) → places ≡ length a.places → IsSegmentOf rows classes piece a
    → IsSegmentOf new others whole (repeat_places least most a)) →
    IsLaid rows classes segments (a ∷ automata)
    → IsLaid new others made (repeated_automaton least most a ∷ automata)
repeat_laid rows new classes others segments front made piece whole places least most a automata e g
    n some count few r s l =
    at (subst (λ w. AreSegments rows classes w (a ∷ automata) (length rows))
    (ap reverse e ∙ reverse-append front (piece ∷ [])) l.segments_are)
  where
    at : AreSegments rows classes (piece ∷ reverse front) (a ∷ automata) (length rows)
        → IsLaid new others made (repeated_automaton least most a ∷ automata)
    at (p, c, q) =
        let m : places ≡ length a.places = omega arith in
        let i : repeated_automaton least most a ≡ repeat_places least most a =
        (let t = some_of a (omega arith) in rw (count, t) refl) in
        let k = r.count in
        let b = r.begins in
        let w : length (repeat_places least most a).places ≡ copies_of least most * places =
        many_repeated least most a ∙ ap (λ n. copies_of least most * n) (sym m) in
        subst (λ x. IsLaid new others made (x ∷ automata)) (sym i)
        (pushed_segment new others made front whole (repeat_places least most a) automata g
        (omega arith) r.even (s a m p) (omega arith)
        (subst (λ j. AreSegments new others (reverse front) automata j) (sym b)
        (segments_stay rows new classes others (reverse front) automata piece.start r.below r.took
        q)))

-- a piece that was last
pub last_piece : (rows : List ℕ) (classes : List Class) (segments front : List Segment)
    (piece : Segment) (automata : List Automaton) (places : ℕ) → segments ≡ front ++ piece ∷ []
    → places ≡ length rows - piece.start → 0 < places → IsLaid rows classes segments automata
    → IsLastPiece rows classes piece places
last_piece rows classes segments front piece automata places e n some l =
    let t = top rows classes segments front piece automata e l in
    let c = t.count in
    record {
      some = some;
      count = omega arith;
      even = l.even;
      within = λ p u. let w = t.stands.within p u in (w.0, omega arith);
    }
