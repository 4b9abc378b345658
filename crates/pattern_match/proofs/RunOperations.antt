-- What going over operations does to sets of states.
use Rattle.std.proofs.Common.{◌≡◌, refl, sym, ◌∙◌, ap, subst, ℕ, suc, ◌+◌, ◌/◌, ◌<◌, Bool, true}
use Rattle.std.proofs.Common.{false, List, [], ◌∷◌, length, Option, Some, None, ◌↔◌, arith}
use Rattle.std.specs.Prelude.{◌&&◌, not, slice_get}
use Rattle.std.proofs.lemmas.Bool.{and_from}
use Rattle.std.specs.Cmp.{first_so, second_so}
use Rattle.pattern_syntax.specs.Reading.{positions}
use Rattle.pattern_syntax.specs.Tree.{Tree}
use Rattle.pattern_match.specs.Automaton.{Place, Automaton, automaton, all_places}
use Rattle.pattern_match.specs.Compiled.{AreTablesReady}
use Rattle.pattern_match.specs.Operations.{AreOperationsOf, operations_tree}
use Rattle.pattern_match.specs.Over.{HaveBits, ends_among, enters, follows_marked, operation_places}
use Rattle.pattern_match.specs.Over.{place_admitted}
use Rattle.pattern_match.specs.Residuals.{is_some_list}
use Rattle.pattern_match.specs.Settled.{IsSteadyPlace, LeadsOnward, MarksLeadOnward, MarksStay}
use Rattle.pattern_match.specs.States.{AreMarks, bit, is_bare}
use Rattle.pattern_match.specs.Tables.{ends, has, leads}
use Rattle.pattern_match.specs.declared.class.Class.{Class}
use Rattle.pattern_match.specs.declared.entry.EnteredPlaces.TheVariants.{By}
use Rattle.pattern_match.specs.declared.operation.Operation.{Operation}
use Rattle.pattern_match.proofs.PassPlaces.{all_count, plain_not_bare}
use Rattle.pattern_match.proofs.RunTables.{any_from, any_to, ends_within, leads_within}
use Rattle.pattern_match.proofs.Stepping.{IsEnd, IsStep, as_many}

are_some : (operations : List Operation) (t : Tree) → AreOperationsOf operations t
    → 0 < length operations
are_some [] t a = absurd (let l : 0 < 0 = a.some in omega arith)
are_some (o ∷ os) t a = omega arith

admitted : (place : Option Place) (b : ℕ) → place_admitted (By b) place ≡ has place b
admitted None b = refl
admitted (Some place) b = refl

entered_step : (places : List Place) (old new : List ℕ) (b : ℕ)
    → ((q : ℕ) → bit new q ≡ enters (By b) places old q) → IsStep places old new b
entered_step places old new b h = record {
  onto = λ p q m l f. h q ∙ and_from (follows_marked places old q) _
      (any_to (λ p. bit old p && leads (slice_get places p) q) (length places) p
      (leads_within places p q l) (and_from (bit old p) _ m l))
      (admitted (slice_get places q) b ∙ f);
  from = λ q m.
      let e : enters (By b) places old q ≡ true = sym (h q) ∙ m in
      let a = any_from (λ p. bit old p && leads (slice_get places p) q) (length places)
      (first_so (follows_marked places old q) _ e) in (
        sym (admitted (slice_get places q) b) ∙ second_so (follows_marked places old q) _ e,
        (a.0, first_so (bit old a.0) _ a.2, second_so (bit old a.0) _ a.2),
      );
}

ended_end : (places : List Place) (marks : List ℕ) (v : Bool) → v ≡ ends_among places marks
    → IsEnd places marks v
ended_end places marks v e = record {
  onto = λ p m l. e ∙ any_to (λ p. bit marks p && ends (slice_get places p)) (length places) p
      (ends_within places p l) (and_from (bit marks p) _ m l);
  from = λ h. let a = any_from (λ p. bit marks p && ends (slice_get places p)) (length places)
      (sym e ∙ h) in (a.0, first_so (bit marks a.0) _ a.2, second_so (bit marks a.0) _ a.2);
}

module _ (t : Tree) (operations : List Operation) (a : AreOperationsOf operations t) where
  are_places : operation_places operations ≡ all_places (automaton t)
  are_places = ap all_places a.same

  pub have_bits : (marks : List ℕ) → AreMarks t marks → HaveBits operations (length marks)
  have_bits marks m = record {
    are = record { spell = a.spell; same = refl; plain = a.plain; some = a.some; few = a.few };
    room =
        let n = ap (λ (ps : List Place). length ps) are_places in
        let r = as_many t in
        let w = m.words in
        omega arith;
  }

  pub step_over : (old new : List ℕ) (b : ℕ)
      → ((q : ℕ) → bit new q ≡ enters (By b) (operation_places operations) old q)
      → IsStep (all_places (automaton t)) old new b
  step_over old new b h = subst (λ ps. IsStep ps old new b) are_places
      (entered_step (operation_places operations) old new b h)

  pub end_over : (marks : List ℕ) (v : Bool)
      → v ≡ ends_among (operation_places operations) marks
      → IsEnd (all_places (automaton t)) marks v
  end_over marks v e = subst (λ ps. IsEnd ps marks v) are_places
      (ended_end (operation_places operations) marks v e)

  pub loops_over : (marks : List ℕ)
      → ((p : ℕ) × (bit marks p ≡ true) × LeadsOnward (operation_places operations) p)
      ↔ MarksLeadOnward t marks
  loops_over marks = (
    λ h. record {
      place = h.0;
      marked = h.1;
      onward = subst (λ ps. LeadsOnward ps h.0) are_places h.2;
    },
    λ s. (s.place, s.marked, subst (λ ps. LeadsOnward ps s.place) (sym are_places) s.onward),
  )

  pub steady_over : (marks : List ℕ) → is_bare t ≡ false
      → ((p : ℕ) → bit marks p ≡ true → IsSteadyPlace (operation_places operations) marks p)
      ↔ MarksStay t marks
  steady_over marks b = (
    λ h. record {
      some = b;
      each = λ p m. subst (λ ps. IsSteadyPlace ps marks p) are_places (h p m);
    },
    λ s p m. subst (λ ps. IsSteadyPlace ps marks p) (sym are_places) (s.each p m),
  )

abbrev bare_of : Automaton → Bool
bare_of a = not (is_some_list a.places) && a.holds_empty

-- operations ready for use in place of rows
pub operations_ready : (t : Tree) (operations : List Operation) (rows width : ℕ)
    (follow accept : List ℕ) (classes : List Class) → AreOperationsOf operations t
    → rows ≡ positions (operations_tree operations) + 1 → width ≡ (rows + 63) / 64
    → AreTablesReady t false rows width follow accept classes operations
operations_ready t operations rows width follow accept classes a n w =
    let c : length (all_places (automaton t)) ≡ suc (positions (operations_tree operations)) =
    ap (λ (b : Automaton). length (all_places b)) (sym a.same)
    ∙ all_count (operations_tree operations) a.plain in
    record {
      bare_is = sym (ap bare_of (sym a.same)
          ∙ plain_not_bare (operations_tree operations) a.plain a.some);
      none = λ e. cc;
      rows_are = λ e. omega arith;
      wide = λ e. omega arith;
      tables = λ e z. absurd (let l = are_some operations t a in omega arith);
      over = λ l. a;
    }
