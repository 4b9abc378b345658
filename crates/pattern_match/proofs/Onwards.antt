-- What is left behind settled states.
use Rattle.std.proofs.Common.{◌≡◌, sym, ◌∙◌, ℕ, ◌<◌, ◌==◌, true, List, [], ◌∷◌, Some}
use Rattle.std.specs.Prelude.{slice_get}
use Rattle.std.specs.List.{list_any}
use Rattle.pattern_syntax.specs.Tree.{Tree}
use Rattle.pattern_syntax.specs.Language.{In}
use Rattle.pattern_match.specs.Residuals.{Residual, all_residuals}
use Rattle.pattern_match.specs.Automaton.{Place, automaton, all_places}
use Rattle.pattern_match.specs.Onwards.{AreTextBytes}
use Rattle.pattern_match.specs.Settled.{IsOnward, LeadsOnward, MarksLeadOnward, IsSteadyPlace}
use Rattle.pattern_match.specs.States.{bit, IsMarked}
use Rattle.pattern_match.proofs.Language.{empty_in}
use Rattle.pattern_match.proofs.Stepping.{IsStep, place_at, residual_at, to_goes, ends_from}

on_itself : (places : List Place) (k : ℕ) → IsOnward places k → LeadsOnward places k
on_itself places k s = record { last = s.last; next = k; follows = s.again; onward = s }

-- its residual has every text
all_left : (t : Tree) (k : ℕ) (r : Residual) → slice_get (all_residuals t) k ≡ Some r
    → LeadsOnward (all_places (automaton t)) k → (text : List ℕ) → AreTextBytes text → In r.1 text
all_left t k r e s [] a =
    let p = place_at t k r e in
    let l : p.0.is_last ≡ true = rw p.1 at s.last in
    empty_in r.1 (sym p.2.last ∙ l)
all_left t k r e s (b ∷ text) a =
    let p = place_at t k r e in
    let x = ends_from (slice_get (all_places (automaton t)) s.next) s.onward.last in
    let z = residual_at t s.next x.0 x.1 in
    let l : list_any (λ n. n == s.next) p.0.next ≡ true = rw p.1 at s.follows in
    let h : list_any (λ c. c == b) z.0.0 ≡ true =
    rw (x.1, z.2.bytes) at (s.onward.takes b a.0 a.1) in
    p.2.from b text
    (to_goes (all_residuals t) p.0.next b text s.next l
    (z.0, z.1, h, all_left t s.next z.0 z.1 (on_itself _ s.next s.onward) text a.2))

pub onward_left : (t : Tree) (marks : List ℕ) → MarksLeadOnward t marks → (text : List ℕ)
    → AreTextBytes text → IsMarked t marks text
onward_left t marks s text a =
    let x = ends_from (slice_get (all_places (automaton t)) s.place) s.onward.last in
    let r = residual_at t s.place x.0 x.1 in
    (s.place, r.0, r.1, s.marked, all_left t s.place r.0 r.1 s.onward text a)

-- a byte leads from marks of steady places to themselves
pub steady_step : (places : List Place) (marks : List ℕ) (b : ℕ) → 0 < b → b < 256
    → ((p : ℕ) → bit marks p ≡ true → IsSteadyPlace places marks p) → IsStep places marks marks b
steady_step places marks b l u each = record {
  onto = λ p q m f h. sym ((each p m).same q) ∙ f;
  from = λ q m. ((each q m).takes b l u, (q, m, (each q m).same q ∙ m));
}
