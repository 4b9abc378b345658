-- A matcher's tables and what its calls do to sets of states.
use Rattle.std.proofs.Common.{◌≡◌, refl, sym, ◌∙◌, ap, subst, ℕ, zero, suc, ◌+◌, ◌-◌, ◌*◌, ◌/◌, ◌<◌}
use Rattle.std.proofs.Common.{◌≤◌, ◌==◌, Bool, true, false, List, [], ◌∷◌, length, map, None, ◌⊎◌}
use Rattle.std.proofs.Common.{inl, inr, ◌↔◌, arith}
use Rattle.std.specs.Prelude.{◌&&◌, slice_get, nat_lt}
use Rattle.std.proofs.lemmas.List.{length-map}
use Rattle.std.proofs.lemmas.Bool.{and_from, or_right, or_cases, or_left, cases_lt}
use Rattle.std.proofs.lemmas.Option.{slice_get_past}
use Rattle.std.specs.Cmp.{first_so, second_so}
use Rattle.std.specs.List.{list_any}
use Rattle.pattern_syntax.specs.Tree.{Tree}
use Rattle.pattern_match.specs.Class.{class_bytes, takes_at}
use Rattle.pattern_match.specs.declared.class.Class.{Class}
use Rattle.pattern_match.specs.declared.readying.PatternTables.{PatternTables}
use Rattle.pattern_match.proofs.Classes.{class_takes}
use Rattle.pattern_match.specs.Residuals.{all_residuals, has_texts}
use Rattle.pattern_match.specs.Automaton.{Place, automaton, all_places}
use Rattle.pattern_match.specs.States.{bit, width_of, is_bare, AreMarks}
use Rattle.pattern_match.specs.Loops.{IsLoop, HaveRows, LeadsToLoop, HasLoop, IsSteady, AreSteady}
use Rattle.pattern_match.specs.Settled.{IsOnward, LeadsOnward, MarksLeadOnward, IsSteadyPlace}
use Rattle.pattern_match.specs.Settled.{MarksStay}
use Rattle.pattern_match.specs.Tables.{AreTables, leads, ends, has, any_under, bytes_in}
use Rattle.pattern_match.proofs.WordBits.{bit_within, no_word}
use Rattle.pattern_match.proofs.Rows.{row_within}
use Rattle.pattern_match.proofs.LowestBits.{any_past}
use Rattle.pattern_match.proofs.Stepping.{IsStep, IsEnd, IsStart, Starts, as_many, next_within}
use Rattle.pattern_match.proofs.Stepping.{starts}

pub any_from : (test : ℕ → Bool) (n : ℕ) → any_under test n ≡ true
    → (p : ℕ) × (p < n) × (test p ≡ true)
any_from test zero h = cc
any_from test (suc n) h = at (or_cases (any_under test n) _ h) (any_from test n)
  where
    at : (any_under test n ≡ true) ⊎ (test n ≡ true)
        → (any_under test n ≡ true → (p : ℕ) × (p < n) × (test p ≡ true)) → (p : ℕ) × (p < suc n)
        × (test p ≡ true)
    at (inl g) ih = let r = ih g in (r.0, omega arith, r.2)
    at (inr g) ih = (n, omega arith, g)

last_or_before : (p n : ℕ) → p < suc n → (p < n) ⊎ (p ≡ n)
last_or_before p n h = grind arith

pub any_to : (test : ℕ → Bool) (n p : ℕ) → p < n → test p ≡ true → any_under test n ≡ true
any_to test zero p l h = absurd (omega arith)
any_to test (suc n) p l h = at (last_or_before p n l) (any_to test n p)
  where
    at : (p < n) ⊎ (p ≡ n) → (p < n → test p ≡ true → any_under test n ≡ true)
        → any_under test (suc n) ≡ true
    at (inl g) ih = or_left _ _ (ih g h)
    at (inr g) ih = or_right (any_under test n) _ (subst (λ m. test m ≡ true) g h)

pub leads_within : (ps : List Place) (p q : ℕ) → leads (slice_get ps p) q ≡ true → p < length ps
leads_within ps p q h = at (cases_lt p (length ps))
  where
    at : (p < length ps) ⊎ (length ps ≤ p) → p < length ps
    at (inl l) = l
    at (inr l) = let e : leads (slice_get ps p) q ≡ false =
        (let n : slice_get ps p ≡ None = slice_get_past ps p l in rw n refl) in
        let d : true ≡ false = sym h ∙ e in cc

pub has_within : (ps : List Place) (p b : ℕ) → has (slice_get ps p) b ≡ true → p < length ps
has_within ps p b h = at (cases_lt p (length ps))
  where
    at : (p < length ps) ⊎ (length ps ≤ p) → p < length ps
    at (inl l) = l
    at (inr l) = let e : has (slice_get ps p) b ≡ false =
        (let n : slice_get ps p ≡ None = slice_get_past ps p l in rw n refl) in
        let d : true ≡ false = sym h ∙ e in cc

pub ends_within : (ps : List Place) (p : ℕ) → ends (slice_get ps p) ≡ true → p < length ps
ends_within ps p h = at (cases_lt p (length ps))
  where
    at : (p < length ps) ⊎ (length ps ≤ p) → p < length ps
    at (inl l) = l
    at (inr l) = let e : ends (slice_get ps p) ≡ false =
        (let n : slice_get ps p ≡ None = slice_get_past ps p l in rw n refl) in
        let d : true ≡ false = sym h ∙ e in cc

first_is : (n k : ℕ) → suc k ≡ n → nat_lt 0 n ≡ true
first_is n k e = grind arith

last_is : (n k : ℕ) → suc k ≡ n → (n - 1 == k) ≡ true
last_is n k e = let f : n - 1 ≡ k = omega arith in grind arith

is_last : (n k : ℕ) → nat_lt 0 n ≡ true → (n - 1 == k) ≡ true → suc k ≡ n
is_last n k a b = let f : n - 1 ≡ k = grind arith in let g : 0 < n = grind arith in omega arith

same_bytes : (classes : List Class) (ps : List Place) (q b : ℕ) → b < 256 → map class_bytes classes
    ≡ map bytes_in ps → takes_at classes q b ≡ has (slice_get ps q) b
same_bytes [] [] q b m e = refl
same_bytes [] (p ∷ ps) q b m e = cc
same_bytes (c ∷ cs) [] q b m e = cc
same_bytes (c ∷ cs) (p ∷ ps) zero b m e = let f : class_bytes c ≡ p.bytes = cc in
    class_takes c b m ∙ ap (list_any (λ n. n == b)) f
same_bytes (c ∷ cs) (p ∷ ps) (suc q) b m e =
    same_bytes cs ps q b m (let f : map class_bytes cs ≡ map bytes_in ps = cc in f)

places_fit : (ps : List Place) (width : ℕ) → width ≡ (length ps + 63) / 64
    → length ps ≤ 64 * width
places_fit ps width e = omega arith

module _ (ps : List Place) (width : ℕ) (follow accept : List ℕ) (classes : List Class)
    (t : AreTables width follow accept classes ps) where
  rows_fit : length ps ≤ 64 * width
  rows_fit = places_fit ps width t.wide

  taken : (b q : ℕ) → b < 256 → takes_at classes q b ≡ has (slice_get ps q) b
  taken b q m = same_bytes classes ps q b m t.bytes

  machine_steps : (old new : List ℕ) (b : ℕ) → b < 256 → length old ≡ width
      → length new ≡ length old
      → ((k : ℕ) → k < 64 * length old
      → bit new k ≡ (any_under (λ p. bit old p && bit follow (64 * (p * length old) + k))
      (length ps) && takes_at classes k b)) → IsStep ps old new b
  machine_steps old new b m n o h = record {
    onto = λ p q u v w.
        let lp = leads_within ps p q v in
        let lq = has_within ps q b w in
        let f = rows_fit in
        let r : bit follow (64 * (p * width) + q) ≡ true = t.follows p q lp (omega arith) ∙ v in
        let s : takes_at classes q b ≡ true = taken b q m ∙ w in
        h q (omega arith)
        ∙ and_from _ _ (any_to (λ p. bit old p && bit follow (64 * (p * length old) + q))
        (length ps) p lp (and_from _ _ u (rw n r))) s;
    from = λ q u.
        let lq = bit_within new q u in
        let f = rows_fit in
        let e = sym (h q (omega arith)) ∙ u in
        let a = any_from (λ p. bit old p && bit follow (64 * (p * length old) + q)) (length ps)
        (first_so (any_under (λ p. bit old p && bit follow (64 * (p * length old) + q))
        (length ps)) _ e) in
        let d : takes_at classes q b ≡ true =
        second_so (any_under (λ p. bit old p && bit follow (64 * (p * length old) + q))
        (length ps)) _ e in
        let u2 : bit follow (64 * (a.0 * length old) + q) ≡ true = second_so (bit old a.0) _ a.2 in
        let g : bit follow (64 * (a.0 * width) + q) ≡ true =
        subst (λ w. bit follow (64 * (a.0 * w) + q) ≡ true) n u2 in (
          sym (taken b q m)
              ∙ d,
          (a.0, first_so (bit old a.0) _ a.2, sym (t.follows a.0 q a.1 (omega arith)) ∙ g),
        );
  }

  machine_ends : (states : List ℕ) (v : Bool) → length states ≡ width
      → ((k : ℕ) → bit states k ≡ true → bit accept k ≡ true → v ≡ true)
      → (v ≡ true → (k : ℕ) × (bit states k ≡ true) × (bit accept k ≡ true)) → IsEnd ps states v
  machine_ends states v n f g = record {
    onto = λ p u w.
        let l = ends_within ps p w in
        let r = rows_fit in
        f p u (t.last p (omega arith) ∙ w);
    from = λ e.
        let r = g e in
        let l = bit_within states r.0 r.1 in
        (r.0, r.1, sym (t.last r.0 (omega arith)) ∙ r.2);
  }

  ended_within : (k : ℕ) → bit accept k ≡ true → (k < 64 * width) × (ends (slice_get ps k) ≡ true)
  ended_within k a =
      let n = t.accepts in
      let l = bit_within accept k a in
      let w : k < 64 * width = omega arith in
      (w, sym (t.last k w) ∙ a)

  ends_within_row : (k : ℕ) → ends (slice_get ps k) ≡ true → (k < 64 * width)
      × (bit accept k ≡ true)
  ends_within_row k e =
      let l = ends_within ps k e in
      let f = rows_fit in
      let w : k < 64 * width = omega arith in
      (w, t.last k w ∙ e)

  machine_rows : HaveRows accept follow
  machine_rows k a =
      let w = row_within k (length ps) width (ends_within ps k (ended_within k a).1) in
      let n = t.accepts in
      let f = t.rows in
      rw (n, f) w

  follow_bit : (n p q : ℕ) → n ≡ width → p < length ps → q < 64 * width
      → bit follow (64 * (p * n) + q) ≡ leads (slice_get ps p) q
  follow_bit n p q e l u = subst (λ w. bit follow (64 * (p * w) + q) ≡ leads (slice_get ps p) q)
      (sym e) (t.follows p q l u)

  loop_onward : (k : ℕ) → bit accept k ≡ true → IsLoop (length accept) follow classes k
      → IsOnward ps k
  loop_onward k a h =
      let e = ended_within k a in
      record {
        last = e.1;
        again = sym (follow_bit (length accept) k k t.accepts (ends_within ps k e.1) e.0) ∙ h.again;
        takes = λ b u v. sym (taken b k v) ∙ h.takes b u v;
      }

  onward_loop : (k : ℕ) → IsOnward ps k → IsLoop (length accept) follow classes k
  onward_loop k s = record {
    again = follow_bit (length accept) k k t.accepts (ends_within ps k s.last)
        (ends_within_row k s.last).0 ∙ s.again;
    takes = λ b u v. taken b k v ∙ s.takes b u v;
  }

  leads_onward : (k : ℕ) → bit accept k ≡ true
      → LeadsToLoop accept follow classes (k * length accept) → LeadsOnward ps k
  leads_onward k a h =
      let e = (ended_within k a).1 in
      let l = (ended_within h.0 h.1.last).0 in
      record {
        last = e;
        next = h.0;
        follows = sym (follow_bit (length accept) k h.0 t.accepts (ends_within ps k e) l)
            ∙ h.1.follows;
        onward = loop_onward h.0 h.1.last h.1.loops;
      }

  onward_leads : (k : ℕ) → LeadsOnward ps k → LeadsToLoop accept follow classes (k * length accept)
  onward_leads k s =
      let l = ends_within_row s.next s.onward.last in (
        s.next,
        record {
          follows = follow_bit (length accept) k s.next t.accepts (ends_within ps k s.last) l.0
              ∙ s.follows;
          last = l.1;
          loops = onward_loop s.next s.onward;
        },
      )

  steady_place : (marks : List ℕ) (p : ℕ) → length marks ≡ width → p < length ps
      → ((q : ℕ) → leads (slice_get ps p) q ≡ true → q < length ps)
      → IsSteady marks follow classes p → IsSteadyPlace ps marks p
  steady_place marks p n l within h = record {
    same = λ q. at q (cases_lt q (64 * width));
    takes = λ b u v. sym (taken b p v) ∙ h.takes b u v;
  }
    where
      past : (q : ℕ) → 64 * width ≤ q → (v : Bool) → leads (slice_get ps p) q ≡ v
          → leads (slice_get ps p) q ≡ false
      past q u false e = e
      past q u true e = let f = rows_fit in let i = within q e in absurd (omega arith)

      at : (q : ℕ) → (q < 64 * width) ⊎ (64 * width ≤ q) → leads (slice_get ps p) q ≡ bit marks q
      at q (inl u) = sym (follow_bit (length marks) p q n l u) ∙ h.same q (omega arith)
      at q (inr u) = past q u (leads (slice_get ps p) q) refl ∙ sym (no_word marks q (omega arith))

  place_steady : (marks : List ℕ) (p : ℕ) → length marks ≡ width → p < length ps
      → IsSteadyPlace ps marks p → IsSteady marks follow classes p
  place_steady marks p n l s = record {
    same = λ q u. follow_bit (length marks) p q n l (omega arith) ∙ s.same q;
    takes = λ b u v. taken b p v ∙ s.takes b u v;
  }

machine_starts : (ps : List Place) (width : ℕ) → width ≡ (length ps + 63) / 64
    → (states : List ℕ) → length states ≡ width
    → ((k : ℕ) → k < 64 * length states
    → bit states k ≡ (nat_lt 0 (length ps) && (length ps - 1 == k))) → IsStart ps states
machine_starts ps width w states n h = record {
  onto = λ k e. let r = places_fit ps width w in
      h k (omega arith) ∙ and_from (nat_lt 0 (length ps)) (length ps - 1 == k)
      (first_is (length ps) k e) (last_is (length ps) k e);
  from = λ k u.
      let l = bit_within states k u in
      let e = sym (h k l) ∙ u in
      is_last (length ps) k (first_so (nat_lt 0 (length ps)) (length ps - 1 == k) e)
      (second_so (nat_lt 0 (length ps)) (length ps - 1 == k) e);
}

-- the states stay a matcher's
pub stepped_states : (t : Tree) (old new : List ℕ) (b : ℕ) → AreMarks t old
    → length new ≡ length old → IsStep (all_places (automaton t)) old new b → AreMarks t new
stepped_states t old new b a n s = record {
  words = n ∙ a.words;
  none_past = λ k l. at k l (bit new k) refl;
}
  where
    at : (k : ℕ) → length (all_residuals t) ≤ k → (v : Bool) → bit new k ≡ v → bit new k ≡ false
    at k l false e = e
    at k l true e = let w = has_within (all_places (automaton t)) k b (s.from k e).0 in
        let m = as_many t in absurd (omega arith)

pub started_states : (t : Tree) (states : List ℕ) → length states ≡ width_of t
    → IsStart (all_places (automaton t)) states → AreMarks t states
started_states t states n s = record {
  words = n;
  none_past = λ k l. at k l (bit states k) refl;
}
  where
    at : (k : ℕ) → length (all_residuals t) ≤ k → (v : Bool) → bit states k ≡ v
        → bit states k ≡ false
    at k l false e = e
    at k l true e = let w = s.from k e in let m = as_many t in absurd (omega arith)

marked_within : (t : Tree) (marks : List ℕ) → AreMarks t marks → (p : ℕ) → bit marks p ≡ true
    → p < length (all_places (automaton t))
marked_within t marks a p h = at (cases_lt p (length (all_places (automaton t))))
  where
    at : (p < length (all_places (automaton t))) ⊎ (length (all_places (automaton t)) ≤ p)
        → p < length (all_places (automaton t))
    at (inl l) = l
    at (inr l) = let n = as_many t in let e : bit marks p ≡ false = a.none_past p (omega arith) in
        let d : true ≡ false = sym h ∙ e in cc

-- so many rows as there are places, in words for them
module _ (t : Tree) (rows width : ℕ) (rows_is : rows ≡ length (all_places (automaton t)))
    (wide : width ≡ (length (all_places (automaton t)) + 63) / 64) where
  pub width_is : width ≡ width_of t
  width_is = let w = wide in let n = as_many t in omega arith

  pub start_is : (new : List ℕ) → length new ≡ width
      → ((k : ℕ) → k < 64 * length new → bit new k ≡ (nat_lt 0 rows && (rows - 1 == k)))
      → IsStart (all_places (automaton t)) new
  start_is new n h = let F : ℕ → Type 0 = λ r. (k : ℕ) → k < 64 * length new
      → bit new k ≡ (nat_lt 0 r && (r - 1 == k)) in
      machine_starts (all_places (automaton t)) width wide new n (subst F rows_is h)

  pub start_made : (new : List ℕ) → length new ≡ width
      → ((k : ℕ) → k < 64 * length new → bit new k ≡ (nat_lt 0 rows && (rows - 1 == k)))
      → AreMarks t new
  start_made new n h = started_states t new (n ∙ width_is) (start_is new n h)

  pub start_stands : (new : List ℕ) → length new ≡ width
      → ((k : ℕ) → k < 64 * length new → bit new k ≡ (nat_lt 0 rows && (rows - 1 == k)))
      → Starts t new
  start_stands new n h = starts t new (has_texts t) refl (start_is new n h)

-- the tables of a pattern
pub record IsMachine (t : Tree) (held : PatternTables) : Type 0 where
  pub rows_is : held.rows ≡ length (all_places (automaton t))
  pub tables : AreTables held.width held.follow.items held.accept.items held.classes.items
      (all_places (automaton t))

module _ (t : Tree) (held : PatternTables) (m : IsMachine t held) where
  pub wide : (old : List ℕ) → AreMarks t old → length old ≡ held.width
  wide old a = a.words ∙ sym (width_is t held.rows held.width m.rows_is m.tables.wide)

  pub rows_in : (old : List ℕ) → AreMarks t old → held.rows ≤ 64 * length old
  rows_in old a =
      let w : held.width ≡ (length (all_places (automaton t)) + 63) / 64 = m.tables.wide in
      let n = wide old a in
      let r = m.rows_is in
      omega arith

  pub follow_in : (old : List ℕ) → AreMarks t old
      → held.rows * length old ≤ length held.follow.items
  follow_in old a = let n = wide old a in let r = m.rows_is in let f = m.tables.rows in
      rw (n, r, f) (omega arith)

  pub marked_in : (old : List ℕ) → AreMarks t old → (p : ℕ) → bit old p ≡ true
      → p * length old + length old ≤ length held.follow.items
  marked_in old a p h =
      let n = marked_within t old a p h in
      let r = m.rows_is in
      let f = follow_in old a in
      let w = row_within p held.rows (length old) (omega arith) in
      omega arith

  -- no state stands past the rows
  pub all_rows : (old : List ℕ) (test : ℕ → Bool) → AreMarks t old
      → any_under (λ p. bit old p && test p) (64 * length old)
      ≡ any_under (λ p. bit old p && test p) held.rows
  all_rows old test a = any_past (λ p. bit old p && test p) held.rows (64 * length old)
      (rows_in old a)
      (λ p l. let n = as_many t in let r = m.rows_is in
      let e : bit old p ≡ false = a.none_past p (omega arith) in ap (λ v. v && test p) e)

  pub step_is : (old new : List ℕ) (b : ℕ) → b < 256 → AreMarks t old → length new ≡ length old
      → ((k : ℕ) → k < 64 * length old
      → bit new k ≡ (any_under (λ p. bit old p && bit held.follow.items (64 * (p * length old) + k))
      held.rows && takes_at held.classes.items k b)) → IsStep (all_places (automaton t)) old new b
  step_is old new b l a n h =
      let F : ℕ → Type 0 = λ r. (k : ℕ) → k < 64 * length old
      → bit new k ≡ (any_under (λ p. bit old p && bit held.follow.items (64 * (p * length old) + k))
      r && takes_at held.classes.items k b) in
      machine_steps (all_places (automaton t)) held.width held.follow.items held.accept.items
      held.classes.items m.tables old new b l (wide old a) n (subst F m.rows_is h)

  pub accept_in : (states : List ℕ) → AreMarks t states → length states ≡ length held.accept.items
  accept_in states a = wide states a ∙ sym m.tables.accepts

  pub end_is : (states : List ℕ) (v : Bool) → AreMarks t states
      → ((k : ℕ) → bit states k ≡ true → bit held.accept.items k ≡ true → v ≡ true)
      → (v ≡ true → (k : ℕ) × (bit states k ≡ true) × (bit held.accept.items k ≡ true))
      → IsEnd (all_places (automaton t)) states v
  end_is states v a f g = machine_ends (all_places (automaton t)) held.width held.follow.items
      held.accept.items held.classes.items m.tables states v (wide states a) f g

  -- the tables' loops are places that lead onward, and their steady states are steady places
  loops_onward : (states : List ℕ) → HasLoop states held.accept.items held.follow.items
      held.classes.items ↔ MarksLeadOnward t states
  loops_onward states = (
    λ h. record {
      place = h.0;
      marked = h.1.marked;
      onward = leads_onward (all_places (automaton t)) held.width held.follow.items
          held.accept.items held.classes.items m.tables h.0 h.1.last h.1.leads;
    },
    λ s. (
      s.place,
      record {
        marked = s.marked;
        last = (ends_within_row (all_places (automaton t)) held.width held.follow.items
            held.accept.items held.classes.items m.tables s.place s.onward.last).1;
        leads = onward_leads (all_places (automaton t)) held.width held.follow.items
            held.accept.items held.classes.items m.tables s.place s.onward;
      },
    ),
  )

  steady_stay : (states : List ℕ) → is_bare t ≡ false → AreMarks t states
      → AreSteady states held.follow.items held.classes.items ↔ MarksStay t states
  steady_stay states b a = (
    λ h. record {
      some = b;
      each = λ p i. steady_place (all_places (automaton t)) held.width held.follow.items
          held.accept.items held.classes.items m.tables states p (wide states a)
          (marked_within t states a p i) (next_within t p) (h p i);
    },
    λ s p i. place_steady (all_places (automaton t)) held.width held.follow.items held.accept.items
        held.classes.items m.tables states p (wide states a)
        (marked_within t states a p i) (s.each p i),
  )

  pub loops_at : (states shown kept table : List ℕ) (bytes : List Class) → shown ≡ states
      → kept ≡ held.accept.items → table ≡ held.follow.items → bytes ≡ held.classes.items
      → HasLoop shown kept table bytes ↔ MarksLeadOnward t states
  loops_at states shown kept table bytes e f g i =
      subst (λ w. HasLoop w kept table bytes ↔ MarksLeadOnward t states) (sym e)
      (subst (λ w. HasLoop states w table bytes ↔ MarksLeadOnward t states) (sym f)
      (subst (λ w. HasLoop states held.accept.items w bytes ↔ MarksLeadOnward t states) (sym g)
      (subst (λ w. HasLoop states held.accept.items held.follow.items w ↔ MarksLeadOnward t states)
      (sym i) (loops_onward states))))

  pub steady_at : (states shown table : List ℕ) (bytes : List Class) → shown ≡ states
      → table ≡ held.follow.items → bytes ≡ held.classes.items → is_bare t ≡ false
      → AreMarks t states → AreSteady shown table bytes ↔ MarksStay t states
  steady_at states shown table bytes e f g b a =
      subst (λ w. AreSteady w table bytes ↔ MarksStay t states) (sym e)
      (subst (λ w. AreSteady states w bytes ↔ MarksStay t states) (sym f)
      (subst (λ w. AreSteady states held.follow.items w ↔ MarksStay t states) (sym g)
      (steady_stay states b a)))

  pub rows_at : (states shown table : List ℕ) → shown ≡ states → table ≡ held.follow.items
      → AreMarks t states → (p : ℕ) → bit shown p ≡ true
      → p * length shown + length shown ≤ length table
  rows_at states shown table e f a =
      let F : List ℕ → List ℕ → Type 0 = λ s w. (p : ℕ) → bit s p ≡ true → p * length s + length s
      ≤ length w in
      subst (λ s. F s table) (sym e) (subst (F states) (sym f) (marked_in states a))

  pub ended_rows_at : (kept table : List ℕ) → kept ≡ held.accept.items → table ≡ held.follow.items
      → HaveRows kept table
  ended_rows_at kept table e f =
      subst (λ w. HaveRows w table) (sym e)
      (subst (HaveRows held.accept.items) (sym f)
      (machine_rows (all_places (automaton t)) held.width held.follow.items held.accept.items
      held.classes.items m.tables))

  pub accept_at : (states shown kept : List ℕ) → shown ≡ states → kept ≡ held.accept.items
      → AreMarks t states → length kept ≡ length shown
  accept_at states shown kept e f a = ap length f ∙ sym (accept_in states a) ∙ sym (ap length e)

  pub step_at : (old new shown : List ℕ) (kept : List Class) (b : ℕ) → shown ≡ held.follow.items
      → kept ≡ held.classes.items → b < 256 → AreMarks t old → length new ≡ length old
      → ((k : ℕ) → k < 64 * length old
      → bit new k ≡ (any_under (λ p. bit old p && bit shown (64 * (p * length old) + k))
      (64 * length old) && takes_at kept k b)) → IsStep (all_places (automaton t)) old new b
  step_at old new shown kept b e f l a n h =
      let F : List ℕ → Type 0 = λ s. (k : ℕ) → k < 64 * length old
      → bit new k ≡ (any_under (λ p. bit old p && bit s (64 * (p * length old) + k))
      (64 * length old) && takes_at kept k b) in
      let G : List Class → Type 0 = λ s. (k : ℕ) → k < 64 * length old
      → bit new k ≡ (any_under (λ p. bit old p && bit held.follow.items (64 * (p * length old) + k))
      (64 * length old) && takes_at s k b) in
      step_is old new b l a n (λ k u. subst G f (subst F e h) k u
      ∙ ap (λ v. v && takes_at held.classes.items k b)
      (all_rows old (λ p. bit held.follow.items (64 * (p * length old) + k)) a))

  pub end_at : (states shown kept : List ℕ) (v : Bool) → shown ≡ states → kept ≡ held.accept.items
      → AreMarks t states → ((k : ℕ) → bit shown k ≡ true → bit kept k ≡ true → v ≡ true)
      → (v ≡ true → (k : ℕ) × (bit shown k ≡ true) × (bit kept k ≡ true))
      → IsEnd (all_places (automaton t)) states v
  end_at states shown kept v e f a g h =
      end_is states v a
      (λ k u w. g k (subst (λ (s : List ℕ). bit s k ≡ true) (sym e) u)
      (subst (λ (s : List ℕ). bit s k ≡ true) (sym f) w))
      (λ i. let r = h i in (
        r.0,
        subst (λ (s : List ℕ). bit s r.0 ≡ true) e r.1,
        subst
            (λ (s : List ℕ). bit s r.0 ≡ true) f r.2,
      ))

  -- the words have no more bits than there are classes, but for those of one word
  pub room : (old : List ℕ) → AreMarks t old → 64 * length old < length held.classes.items + 64
  room old a =
      let n = wide old a in
      let w : held.width ≡ (length (all_places (automaton t)) + 63) / 64 = m.tables.wide in
      let l : length held.classes.items ≡ length (all_places (automaton t)) =
      sym (length-map held.classes.items class_bytes) ∙ ap length m.tables.bytes
      ∙ length-map (all_places (automaton t)) bytes_in in
      omega arith
