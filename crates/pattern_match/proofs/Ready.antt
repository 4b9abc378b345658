-- An automaton made ready: marks, and what they leave, where it has tables and where it needs none.
use Rattle.std.proofs.Common.{◌≡◌, refl, sym, ◌∙◌, ap, subst, ℕ, suc, ◌-◌, ◌*◌, ◌<◌, ◌==◌, Bool}
use Rattle.std.proofs.Common.{true}
use Rattle.std.proofs.Common.{false, List, [], ◌∷◌, ◌++◌, length, take, drop, arith}
use Rattle.std.specs.Prelude.{◌&&◌, not, nat_lt}
use Rattle.std.proofs.lemmas.List.{take-append-drop}
use Rattle.std.proofs.lemmas.Bool.{not-true}
use Rattle.std.specs.Cmp.{first_so, second_so}
use Rattle.pattern_syntax.specs.Tree.{Tree}
use Rattle.pattern_syntax.specs.Language.{In}
use Rattle.pattern_match.specs.Residuals.{residuals, is_some_list}
use Rattle.pattern_match.specs.Automaton.{automaton, all_places}
use Rattle.pattern_match.specs.Settled.{MarksLeadOnward}
use Rattle.pattern_match.specs.States.{bit, is_bare, AreMarks, IsMarked, AreMarksBy, IsBehindBy}
use Rattle.pattern_match.specs.States.{AreStatesOf, Progress, words_by, words_for}
use Rattle.pattern_syntax.specs.Starts.{behind_start}
use Rattle.pattern_match.specs.States.{AreMarksOf, IsBehind, IsRead}
use Rattle.pattern_match.specs.Onwards.{AreTextBytes}
use Rattle.pattern_match.specs.Compiled.{IsReadyFor, IsCompiled}
use Rattle.pattern_match.specs.declared.machine.Machine.TheInside.{Inside}
use Rattle.pattern_match.specs.Operations.{AreOperationsOf}
use Rattle.pattern_match.specs.declared.operation.Operation.{Operation}
use Rattle.pattern_match.specs.declared.readying.PatternTables.{PatternTables}
use Rattle.pattern_match.proofs.Language.{empty_in}
use Rattle.pattern_match.proofs.Onwards.{onward_left}
use Rattle.pattern_match.proofs.Running.{Runs, automaton_runs, no_first}
use Rattle.pattern_match.proofs.WordBits.{bit_within}
use Rattle.pattern_match.proofs.Stepping.{IsStep, IsEnd, IsAny, step_onto, step_from, end_from}
use Rattle.pattern_match.proofs.Stepping.{end_onto, any_left, left_any}
use Rattle.pattern_match.proofs.RunTables.{IsMachine, start_made, start_stands, width_is}
use Rattle.pattern_match.proofs.RunTables.{stepped_states}

-- a pattern without a byte set holds the empty text alone
bare_text : (t : Tree) → is_bare t ≡ true → (text : List ℕ) → (In t text → text ≡ [])
    × (text ≡ [] → In t text)
bare_text t h text = (
  λ i. at text i,
  λ e. subst (λ w. In t w) (sym e)
      (empty_in t (sym r.holds_empty ∙ second_so (not (is_some_list (automaton t).places)) _ h)),
)
  where
    r : Runs (automaton t) t (residuals t)
    r = automaton_runs t

    at : (text : List ℕ) → In t text → text ≡ []
    at [] i = refl
    at (b ∷ bs) i =
        absurd (no_first (automaton t) t (residuals t) r
        (not-true (is_some_list (automaton t).places)
        (first_so (not (is_some_list (automaton t).places)) _ h)) b bs i)

pub some_marks : (t : Tree) (marks : List ℕ) → is_bare t ≡ false → AreMarksOf t marks
    → AreMarks t marks
some_marks t marks e a = subst (λ v. AreMarksBy v t marks) e a

pub marks_of_some : (t : Tree) (marks : List ℕ) → is_bare t ≡ false → AreMarks t marks
    → AreMarksOf t marks
marks_of_some t marks e a = subst (λ v. AreMarksBy v t marks) (sym e) a

pub behind_some : (t : Tree) (marks text : List ℕ) → is_bare t ≡ false → IsBehind t marks text
    → IsMarked t marks text
behind_some t marks text e a = subst (λ v. IsBehindBy v t marks text) e a

pub some_behind : (t : Tree) (marks text : List ℕ) → is_bare t ≡ false → IsMarked t marks text
    → IsBehind t marks text
some_behind t marks text e a = subst (λ v. IsBehindBy v t marks text) (sym e) a

pub bare_behind : (t : Tree) (marks text : List ℕ) → is_bare t ≡ true
    → (IsBehind t marks text → text ≡ []) × (text ≡ [] → IsBehind t marks text)
bare_behind t marks text e = (
  λ a. subst (λ v. IsBehindBy v t marks text) e a,
  λ a. subst (λ v. IsBehindBy v t marks text)
      (sym e) a,
)

pub bare_unmarked : (t : Tree) (marks : List ℕ) → is_bare t ≡ true → AreMarksOf t marks → (p : ℕ)
    → bit marks p ≡ true → ⊥
bare_unmarked t marks e a p h =
    let n : length marks ≡ 0 = subst (λ v. AreMarksBy v t marks) e a in
    let l = bit_within marks p h in
    omega arith

-- what a machine keeps, as its pattern's
pub ready_by : (m : Inside) (t : Tree) → behind_start m.pattern.now.tree ≡ t → IsCompiled m
    → IsReadyFor t m.tables.now
ready_by m t is kept = subst (λ u. IsReadyFor u m.tables.now) is kept.behind

module _ (t : Tree) (held : PatternTables) (r : IsReadyFor t held) where
  -- it has rows where it has no operations
  pub by_rows : held.is_bare ≡ false → (shown : List Operation) → shown ≡ held.operations.items
      → (empty : Bool) → empty ≡ (length shown == 0) → empty ≡ true → IsMachine t held
  by_rows e shown f empty g h = record {
    rows_is = r.rows_are e;
    tables = r.tables e
        (let n : length shown ≡ length held.operations.items =
        ap (λ (o : List Operation). length o) f in
        let z : (length shown == 0) ≡ true = sym g ∙ h in
        let w : length shown ≡ 0 = grind arith in omega arith);
  }

  pub by_operations : (shown : List Operation) → shown ≡ held.operations.items → (empty : Bool)
      → empty ≡ (length shown == 0) → empty ≡ false → AreOperationsOf shown t
  by_operations shown f empty g h = subst (λ o. AreOperationsOf o t) (sym f)
      (r.over (let n : length shown ≡ length held.operations.items =
      ap (λ (o : List Operation). length o) f in
      let z : (length shown == 0) ≡ false = sym g ∙ h in
      let w : 0 < length shown = grind arith in omega arith))

  not_bare : held.is_bare ≡ false → is_bare t ≡ false
  not_bare e = sym r.bare_is ∙ e

  made_at : (v : Bool) → held.is_bare ≡ v → (new : List ℕ) → length new ≡ held.width
      → ((k : ℕ) → k < 64 * length new → bit new k ≡ (nat_lt 0 held.rows && (held.rows - 1 == k)))
      → AreMarksOf t new
  made_at true e new n h = subst (λ v. AreMarksBy v t new) (sym e ∙ r.bare_is) (n ∙ r.none e)
  made_at false e new n h =
      marks_of_some t new (not_bare e)
      (start_made t held.rows held.width (r.rows_are e) (r.wide e) new n h)

  starts_at : (v : Bool) → held.is_bare ≡ v → (new : List ℕ) → length new ≡ held.width
      → ((k : ℕ) → k < 64 * length new → bit new k ≡ (nat_lt 0 held.rows && (held.rows - 1 == k)))
      → (text : List ℕ) → (IsBehind t new text → In t text) × (In t text → IsBehind t new text)
  starts_at true e new n h text =
      let b = sym r.bare_is ∙ e in (
        λ a. (bare_text t b text).1 ((bare_behind t new text b).0 a),
        λ a.
            (bare_behind t new text b).1 ((bare_text t b text).0 a),
      )
  starts_at false e new n h text =
      let s = start_stands t held.rows held.width (r.rows_are e) (r.wide e) new n h in (
        λ a. s.from text (behind_some t new text (not_bare e) a),
        λ a. some_behind t new text
            (not_bare e) (s.onto text a),
      )

  words_at : (v : Bool) → held.is_bare ≡ v → words_for t ≡ held.width
  words_at true e = ap (λ v. words_by v t) (sym r.bare_is ∙ e) ∙ sym (r.none e)
  words_at false e = ap (λ v. words_by v t) (not_bare e)
      ∙ sym (width_is t held.rows held.width (r.rows_are e) (r.wide e))

  pub words_are : words_for t ≡ held.width
  words_are = words_at held.is_bare refl

  pub restart_made : (new : List ℕ) → length new ≡ held.width
      → ((k : ℕ) → k < 64 * length new → bit new k ≡ (nat_lt 0 held.rows && (held.rows - 1 == k)))
      → AreMarksOf t new
  restart_made = made_at held.is_bare refl

  pub restart_starts : (new : List ℕ) → length new ≡ held.width
      → ((k : ℕ) → k < 64 * length new → bit new k ≡ (nat_lt 0 held.rows && (held.rows - 1 == k)))
      → (text : List ℕ) → (IsBehind t new text → In t text) × (In t text → IsBehind t new text)
  restart_starts = starts_at held.is_bare refl

-- as many words as the pattern has
pub marks_counted : (t : Tree) (states : Progress) → AreStatesOf t states
    → length states.marks ≡ words_for (behind_start t)
marks_counted t states s = at (is_bare (behind_start t)) refl
  where
    at : (v : Bool) → is_bare (behind_start t) ≡ v → length states.marks
        ≡ words_for (behind_start t)
    at true e = subst (λ v. AreMarksBy v (behind_start t) states.marks) e s.marks
        ∙ sym (ap (λ v. words_by v (behind_start t)) e)
    at false e = (some_marks (behind_start t) states.marks e s.marks).words
        ∙ sym (ap (λ v. words_by v (behind_start t)) e)

pub step_made : (t : Tree) (old new : List ℕ) (b : ℕ) → is_bare t ≡ false → AreMarksOf t old
    → length new ≡ length old → IsStep (all_places (automaton t)) old new b → AreMarksOf t new
step_made t old new b e a n s =
    marks_of_some t new e (stepped_states t old new b (some_marks t old e a) n s)

pub step_behind : (t : Tree) (old new : List ℕ) (b : ℕ) → is_bare t ≡ false
    → IsStep (all_places (automaton t)) old new b → (text : List ℕ)
    → (IsBehind t old (b ∷ text) → IsBehind t new text)
    × (IsBehind t new text → IsBehind t old (b ∷ text))
step_behind t old new b e s text = (
  λ a. some_behind t new text e (step_onto t old new b s text (behind_some t old (b ∷ text) e a)),
  λ a. some_behind t old (b ∷ text) e (step_from t old new b s text (behind_some t new text e a)),
)

pub end_behind : (t : Tree) (marks : List ℕ) (v : Bool) → is_bare t ≡ false
    → IsEnd (all_places (automaton t)) marks v → (v ≡ true → IsBehind t marks [])
    × (IsBehind t marks [] → v ≡ true)
end_behind t marks v e s = (
  λ h. some_behind t marks [] e (end_from t marks v s h),
  λ a. end_onto t marks v s
      (behind_some t marks [] e a),
)

pub bare_ends : (t : Tree) (marks : List ℕ) → is_bare t ≡ true → (true ≡ true → IsBehind t marks [])
    × (IsBehind t marks [] → true ≡ true)
bare_ends t marks e = (λ h. (bare_behind t marks [] e).1 refl, λ a. refl)

pub all_behind : (t : Tree) (marks : List ℕ) → is_bare t ≡ false → MarksLeadOnward t marks
    → (text : List ℕ) → AreTextBytes text → IsBehind t marks text
all_behind t marks e s text a = some_behind t marks text e (onward_left t marks s text a)

pub any_behind : (t : Tree) (marks : List ℕ) (v : Bool) → is_bare t ≡ false → AreMarksOf t marks
    → IsAny marks v → v ≡ true → (text : List ℕ) × IsBehind t marks text
any_behind t marks v e a s h = let r = any_left t marks v (some_marks t marks e a) s h in
    (r.0, some_behind t marks r.0 e r.1)

pub behind_any : (t : Tree) (marks : List ℕ) (v : Bool) → is_bare t ≡ false → IsAny marks v
    → (text : List ℕ) → IsBehind t marks text → v ≡ true
behind_any t marks v e s text a = left_any t marks v s text (behind_some t marks text e a)

pub bare_left : (t : Tree) (marks : List ℕ) → is_bare t ≡ true → (text : List ℕ)
    × IsBehind t marks text
bare_left t marks e = ([], (bare_behind t marks [] e).1 refl)

pub nothing_left : (t : Tree) (marks text : List ℕ) (i : ℕ) (v : Bool) → v ≡ false
    → ((rest : List ℕ) → IsBehind t marks rest → v ≡ true) → IsRead t marks (take i text)
    → In t text → ⊥
nothing_left t marks text i v e f h m =
    let p : take i text ++ drop i text ≡ text = take-append-drop i text in
    let u : v ≡ true = f (drop i text) ((h (drop i text)).1 (subst (λ w. In t w) (sym p) m)) in
    let c : true ≡ false = sym u ∙ e in cc

is_nil : (text : List ℕ) (v : Bool) → v ≡ (length text == 0) → (v ≡ true → text ≡ [])
    × (text ≡ [] → v ≡ true)
is_nil [] v e = (λ h. refl, λ h. e)
is_nil (b ∷ bs) v e = (
  λ h. absurd (let z : (suc (length bs) == 0) ≡ false = grind arith in
      let d : true ≡ false = sym h ∙ e ∙ z in cc),
  λ h. cc,
)

pub bare_matches : (t : Tree) (text : List ℕ) (v : Bool) → is_bare t ≡ true → v ≡ (length text == 0)
    → (v ≡ true → In t text) × (In t text → v ≡ true)
bare_matches t text v e h = (
  λ a. (bare_text t e text).1 ((is_nil text v h).0 a),
  λ a. (is_nil text v h).1
      ((bare_text t e text).0 a),
)
