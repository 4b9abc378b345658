-- Going over a plain pattern goes on as its automaton does.
use Rattle.std.proofs.Common.{◌≡◌, refl, sym, ◌∙◌, ap, ℕ, zero, suc, pred, ◌+◌}
use Rattle.std.proofs.Common.{◌==◌, Bool, true, false, List, [], ◌∷◌, ◌++◌, length, arith}
use Rattle.std.proofs.Math.Bool.{and-false, or-false, or_comm}
use Rattle.std.proofs.lemmas.Bool.{ne_eqb}
use Rattle.std.specs.Cmp.{first_so, second_so}
use Rattle.std.specs.Prelude.{◌||◌, ◌&&◌, Option, Some, None, slice_get}
use Rattle.pattern_syntax.specs.Reading.{positions, factor}
use Rattle.pattern_syntax.specs.Tree.{Tree, Set, Nothing, Both, Either, Repeat}
use Rattle.pattern_match.specs.Automaton.{Place, Automaton, up, bare, both_live, either_automaton}
use Rattle.pattern_match.specs.Automaton.{copies, endless, repeat_places, repeated_automaton}
use Rattle.pattern_match.specs.Automaton.{automaton, all_places}
use Rattle.pattern_match.specs.Over.{place_admitted, follows_marked, enters, ends_among}
use Rattle.pattern_match.specs.Passes.{is_plain, holds_nothing, may_enter, has_no_most}
use Rattle.pattern_match.specs.Passes.{copies_needed}
use Rattle.pattern_match.specs.Passes.{copies_end, ends_marked, copies_move, moves_to}
use Rattle.pattern_match.specs.Residuals.{is_some_list, is_count}
use Rattle.pattern_match.specs.Segments.{among}
use Rattle.pattern_match.specs.States.{bit}
use Rattle.pattern_match.specs.Tables.{ends, leads}
use Rattle.pattern_match.specs.declared.entry.EnteredPlaces.{EnteredPlaces}
use Rattle.pattern_match.specs.declared.entry.EnteredPlaces.TheVariants.{Barred}
use Rattle.pattern_match.proofs.LowestBits.{same_below}
use Rattle.pattern_match.proofs.PassParts.{IsPassed, same_passed, none_passed, single_passed}
use Rattle.pattern_match.proofs.PassParts.{turned_passed, either_passed, copies_passed}
use Rattle.pattern_match.proofs.PassParts.{endless_passed, ways_in}
use Rattle.pattern_match.proofs.PassPlaces.{plain_repeat, none_there, plain_places}
use Rattle.pattern_match.proofs.PassRows.{some_place, ends_at, leads_at, enters_at}
use Rattle.pattern_match.proofs.PassRows.{some_append, some_same, any_place, entered_place}
use Rattle.pattern_match.proofs.Segments.{up_none}

-- where a piece has no place, its copies have none
none_end : (e : ℕ → Bool) (size : ℕ) (nothing : Bool) (least copies start : ℕ)
    → ((s : ℕ) → e s ≡ false) → copies_end e size nothing least copies start ≡ false
none_end e size nothing least zero start h = refl
none_end e size nothing least (suc copies) start h =
    let a = h start in
    let b = none_end e size nothing (pred least) copies (start + size) h in
    rw (a, b) (ap (λ v. v || false) (and-false ((pred least == 0) || nothing)))

none_move : (e : ℕ → Bool) (m : Bool → ℕ → Bool) (size : ℕ) (endless : Bool) (copies : ℕ)
    (entered : Bool) (start : ℕ) → ((v : Bool) (s : ℕ) → m v s ≡ false)
    → copies_move e m size endless copies entered start ≡ false
none_move e m size endless zero entered start h = refl
none_move e m size endless (suc copies) entered start h =
    let a = h (entered || ((endless && (copies == 0)) && e start)) start in
    let b = none_move e m size endless copies (e start) (start + size) h in
    rw (a, b) refl

module _ (entry : EnteredPlaces) (marked : ℕ → Bool) (q : ℕ) where
  -- an automaton is gone over as a pattern is
  abbrev IsOver : Automaton → Tree → Type 0
  IsOver a t = IsPassed entry marked q (ends_marked marked t) (moves_to entry marked q t)
      a.places a.first

  repeat_over : (least : ℕ) (most : Option ℕ) (piece : Tree) (a : Automaton)
      → is_count least most ≡ true → length a.places ≡ positions piece
      → a.holds_empty ≡ holds_nothing piece → IsOver a piece
      → IsOver (repeat_places least most a) (Repeat least most piece)
  repeat_over least None piece a c n h p =
      let o : IsPassed entry marked q
      (copies_end (ends_marked marked piece) (positions piece) (holds_nothing piece)
      (factor least None) (factor least None))
      (copies_move (ends_marked marked piece) (moves_to entry marked q piece) (positions piece) true
      (factor least None)) (endless least a).places (endless least a).first =
      rw (← n, ← h) (endless_passed entry marked q (ends_marked marked piece)
      (moves_to entry marked q piece) a p least) in o
  repeat_over least (Some most) piece a c n h p =
      let o : IsPassed entry marked q
      (copies_end (ends_marked marked piece) (positions piece) (holds_nothing piece) least most)
      (copies_move (ends_marked marked piece) (moves_to entry marked q piece) (positions piece)
      false most) (copies least most a).places (copies least most a).first =
      rw (← n, ← h) (copies_passed entry marked q (ends_marked marked piece)
      (moves_to entry marked q piece) a p least most (grind arith)) in o

  bare_over : (least : ℕ) (most : Option ℕ) (piece : Tree) (a : Automaton) (v : Bool)
      → a.places ≡ [] → IsOver a piece → IsOver (bare v) (Repeat least most piece)
  bare_over least most piece a v z p =
      same_passed entry marked q (λ s. false) (ends_marked marked (Repeat least most piece))
      (λ v s. false) (moves_to entry marked q (Repeat least most piece)) [] []
      (λ s. none_end (ends_marked marked piece) (positions piece) (holds_nothing piece)
      (copies_needed least most) (factor least most) s
      (λ i. p.ended i ∙ ap (some_place (ends_at marked) i) z))
      (λ w s. none_move (ends_marked marked piece) (moves_to entry marked q piece) (positions piece)
      (has_no_most most) (factor least most) w s
      (λ x i. p.reached x i
      ∙ ap (λ ps. ((x && among (up i a.first) q) || some_place (leads_at marked i q) i a.places)
      && some_place (enters_at entry q) i ps) z
      ∙ and-false ((x && among (up i a.first) q)
      || some_place (leads_at marked i q) i a.places)))
      (none_passed entry marked q)

  repeated_over : (least : ℕ) (most : Option ℕ) (piece : Tree) (a : Automaton)
      → is_count least most ≡ true → length a.places ≡ positions piece
      → a.holds_empty ≡ holds_nothing piece → IsOver a piece
      → IsOver (repeated_automaton least most a) (Repeat least most piece)
  repeated_over least most piece a c n h p = at (is_some_list a.places) refl
    where
      at : (v : Bool) → is_some_list a.places ≡ v
          → IsOver (repeated_automaton least most a) (Repeat least most piece)
      at true k = rw (c, k) (repeat_over least most piece a c n h p)
      at false k = rw (c, k) (bare_over least most piece a ((least == 0) || a.holds_empty)
          (none_there a.places k) p)

  automaton_over : (t : Tree) → is_plain t ≡ true → IsOver (automaton t) t
  unfolding automaton
  automaton_over (Set []) h = cc
  automaton_over (Set (b ∷ bs)) h = single_passed entry marked q (b ∷ bs)
  automaton_over Nothing h = none_passed entry marked q
  automaton_over (Both x y) h =
      let i = first_so (is_plain x) _ h in
      let j = second_so (is_plain x) _ h in
      let u : (automaton x).is_live ≡ true = (plain_places x i).1 in
      let v : (automaton y).is_live ≡ true = (plain_places y j).1 in
      let n : length (automaton x).places ≡ positions x = (plain_places x i).0 in
      let k : (automaton x).holds_empty ≡ holds_nothing x = (plain_places x i).2 in
      let l : (automaton y).holds_empty ≡ holds_nothing y = (plain_places y j).2 in
      let o : IsPassed entry marked q
      (λ s. ends_marked marked y (s + positions x) || (holds_nothing y && ends_marked marked x s))
      (λ w s. moves_to entry marked q x w s || moves_to entry marked q y
      ((w && holds_nothing x) || ends_marked marked x s) (s + positions x))
      (both_live (automaton x) (automaton y)).places (both_live (automaton x) (automaton y)).first =
      rw (← n, ← k, ← l) (turned_passed entry marked q (ends_marked marked x)
      (ends_marked marked y) (moves_to entry marked q x) (moves_to entry marked q y) (automaton x)
      (automaton y) (automaton_over x i) (automaton_over y j) (automaton x).holds_empty) in
      rw (u, v) o
  automaton_over (Either x y) h =
      let i = first_so (is_plain x) _ h in
      let j = second_so (is_plain x) _ h in
      let n : length (automaton x).places ≡ positions x = (plain_places x i).0 in
      let o : IsPassed entry marked q
      (λ s. ends_marked marked x s || ends_marked marked y (s + positions x))
      (λ w s. moves_to entry marked q x w s || moves_to entry marked q y w (s + positions x))
      (either_automaton (automaton x) (automaton y)).places
      (either_automaton (automaton x) (automaton y)).first =
      rw (← n) (either_passed entry marked q (ends_marked marked x)
      (ends_marked marked y) (moves_to entry marked q x) (moves_to entry marked q y) (automaton x)
      (automaton y) (automaton_over x i) (automaton_over y j)) in o
  automaton_over (Repeat least most piece) h =
      let r = plain_repeat least most piece h in
      let p = plain_places piece r.piece_plain in
      repeated_over least most piece (automaton piece) r.count p.0 p.2
      (automaton_over piece r.piece_plain)

-- with the place before the first byte, which ends a text where the empty one is held
abbrev with_start : Automaton → List Place
with_start a =
    a.places ++ record { bytes = 0 ∷ []; is_last = a.holds_empty; next = a.first } ∷ []

ended_with : (a : Automaton) (marks : List ℕ) → ends_among (with_start a) marks
    ≡ (some_place (ends_at (bit marks)) 0 a.places
    || (bit marks (length a.places) && a.holds_empty))
ended_with a marks =
    same_below (λ p. bit marks p && ends (slice_get (with_start a) p))
    (λ p. bit marks (0 + p) && ends (slice_get (with_start a) p)) (length (with_start a))
    (λ p l. let z : p ≡ 0 + p = omega arith in
    ap (λ n. bit marks n && ends (slice_get (with_start a) p)) z)
    ∙ any_place (λ n place. bit marks n && ends place) 0 (with_start a)
    ∙ some_append (ends_at (bit marks)) 0 a.places (_ ∷ [])
    ∙ (let z : 0 + length a.places ≡ length a.places = omega arith in
    rw z (ap (λ v. some_place (ends_at (bit marks)) 0 a.places || v)
    (or-false (bit marks (length a.places) && a.holds_empty))))

follows_with : (a : Automaton) (marks : List ℕ) (q : ℕ) → follows_marked (with_start a) marks q
    ≡ ((bit marks (length a.places) && among (up 0 a.first) q)
    || some_place (leads_at (bit marks) 0 q) 0 a.places)
follows_with a marks q =
    same_below (λ p. bit marks p && leads (slice_get (with_start a) p) q)
    (λ p. bit marks (0 + p) && leads (slice_get (with_start a) p) q) (length (with_start a))
    (λ p l. let z : p ≡ 0 + p = omega arith in
    ap (λ n. bit marks n && leads (slice_get (with_start a) p) q) z)
    ∙ any_place (λ n place. bit marks n && leads place q) 0 (with_start a)
    ∙ some_same (λ n p. bit marks n && among p.next q) (leads_at (bit marks) 0 q)
    (λ n p. ap (λ ns. bit marks n && among ns q) (sym (up_none p.next))) 0 (with_start a)
    ∙ some_append (leads_at (bit marks) 0 q) 0 a.places (_ ∷ [])
    ∙ (let z : 0 + length a.places ≡ length a.places = omega arith in
    rw z (ap (λ v. some_place (leads_at (bit marks) 0 q) 0 a.places || v)
    (or-false (bit marks (length a.places) && among (up 0 a.first) q))))
    ∙ or_comm (some_place (leads_at (bit marks) 0 q) 0 a.places)
    (bit marks (length a.places) && among (up 0 a.first) q)

entered_with : (entry : EnteredPlaces) (a : Automaton) (q : ℕ)
    → place_admitted entry (slice_get (with_start a) q)
    ≡ (some_place (enters_at entry q) 0 a.places
    || ((q == length a.places) && may_enter entry (0 ∷ [])))
entered_with entry a q =
    entered_place entry q 0 q (with_start a) (omega arith)
    ∙ some_append (enters_at entry q) 0 a.places (_ ∷ [])
    ∙ (let z : 0 + length a.places ≡ length a.places = omega arith in
    rw z (ap (λ v. some_place (enters_at entry q) 0 a.places || v)
    (or-false ((q == length a.places) && may_enter entry (0 ∷ [])))))

-- nothing leads to the place before the first byte
not_behind : (x y c w : Bool) → (x ≡ true → c ≡ false) → (x && y) ≡ (x && (y || (c && w)))
not_behind true y c w h = let e = h refl in rw e (sym (or-false y))
not_behind false y c w h = refl

pub passes_agree : (t : Tree) (entry : EnteredPlaces) (marks : List ℕ) (q : ℕ) → is_plain t ≡ true
    → moves_to entry (bit marks) q t (bit marks (positions t)) 0
    ≡ enters entry (all_places (automaton t)) marks q
passes_agree t entry marks q h =
    let p = automaton_over entry (bit marks) q t h in
    let u : (automaton t).is_live ≡ true = (plain_places t h).1 in
    let n : length (automaton t).places ≡ positions t = (plain_places t h).0 in
    let f = follows_with (automaton t) marks q in
    let g = entered_with entry (automaton t) q in
    rw (u, f, g, ← n) (p.reached (bit marks (length (automaton t).places)) 0
    ∙ not_behind ((bit marks (length (automaton t).places) && among (up 0 (automaton t).first) q)
    || some_place (leads_at (bit marks) 0 q) 0 (automaton t).places)
    (some_place (enters_at entry q) 0 (automaton t).places)
    (q == length (automaton t).places) (may_enter entry (0 ∷ []))
    (λ k. ne_eqb q (length (automaton t).places) (λ e. let s = ways_in entry (bit marks) q
    (ends_marked (bit marks) t) (moves_to entry (bit marks) q t) (automaton t).places
    (automaton t).first p (bit marks (length (automaton t).places)) 0 k in omega arith)))

pub ends_agree : (t : Tree) (marks : List ℕ) → is_plain t ≡ true
    → (ends_marked (bit marks) t 0 || (bit marks (positions t) && holds_nothing t))
    ≡ ends_among (all_places (automaton t)) marks
ends_agree t marks h =
    let p = automaton_over Barred (bit marks) 0 t h in
    let u : (automaton t).is_live ≡ true = (plain_places t h).1 in
    let n : length (automaton t).places ≡ positions t = (plain_places t h).0 in
    let k : (automaton t).holds_empty ≡ holds_nothing t = (plain_places t h).2 in
    let e : ends_marked (bit marks) t 0 ≡ some_place (ends_at (bit marks)) 0 (automaton t).places =
    p.ended 0 in
    rw (u, ended_with (automaton t) marks, e, ← n, ← k) refl
