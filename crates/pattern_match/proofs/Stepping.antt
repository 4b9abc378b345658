-- What steps, tests and copies of sets of states mean for texts.
use Rattle.std.proofs.Common.{◌≡◌, refl, sym, ◌∙◌, subst, ℕ, zero, suc, ◌+◌, ◌<◌, ◌≤◌, ◌==◌, Bool}
use Rattle.std.proofs.Common.{true, false, List, [], ◌∷◌, ◌++◌, length, Option, Some, None, ◌⊎◌}
use Rattle.std.proofs.Common.{inl, inr, arith, length-append}
use Rattle.std.proofs.lemmas.Bool.{or_right, or_cases, or_left, cases_lt}
use Rattle.std.specs.Prelude.{slice_get}
use Rattle.std.specs.List.{list_any}
use Rattle.pattern_syntax.specs.Tree.{Tree}
use Rattle.pattern_syntax.specs.Language.{In}
use Rattle.pattern_match.specs.Residuals.{has_texts, Residual, residuals, all_residuals}
use Rattle.pattern_match.specs.Automaton.{Place, automaton, all_places}
use Rattle.pattern_match.specs.States.{bit, AreMarks, IsMarked}
use Rattle.pattern_match.specs.Tables.{leads, ends, has}
use Rattle.pattern_match.proofs.Language.{has_text, text_of, empty_in, in_empty}
use Rattle.pattern_match.proofs.Running.{Takes, Goes, Within, Good, AllGood, Runs, automaton_runs}
use Rattle.pattern_match.proofs.Running.{good_length, good_append, good_all, good_left, goes_more}
use Rattle.pattern_match.proofs.Running.{goes_less, within_more, get_right}

start_good : (t : Tree) (zs : List Residual) → Runs (automaton t) t zs → has_texts t ≡ true
    → Good (zs ++ (0 ∷ [], t) ∷ [])
    (record { bytes = 0 ∷ []; is_last = (automaton t).holds_empty; next = (automaton t).first })
    (0 ∷ [], t)
start_good t zs r l = record {
  bytes = refl;
  last = r.holds_empty;
  onto = λ b s h. goes_more zs ((0 ∷ [], t) ∷ []) (automaton t).first b s (r.onto b s h);
  from = λ b s h. r.from b s (goes_less zs ((0 ∷ [], t) ∷ []) (automaton t).first b s r.within h);
  within = within_more (length zs) (length (zs ++ (0 ∷ [], t) ∷ [])) (automaton t).first
      (rw length-append (omega arith)) r.within;
  live = l;
}

all_good : (t : Tree) (v : Bool) → has_texts t ≡ v
    → AllGood (all_residuals t) (all_places (automaton t)) (all_residuals t)
all_good t true l =
    let r = automaton_runs t in
    let k : (automaton t).is_live ≡ true = r.is_live ∙ l in
    let s : Residual = (0 ∷ [], t) in
    rw (l, k) (good_append (residuals t ++ s ∷ []) (automaton t).places _ (residuals t) (s ∷ [])
    (good_all (residuals t) (residuals t ++ s ∷ []) (good_left (residuals t) (s ∷ []))
    (automaton t).places (residuals t) r.places)
    (start_good t (residuals t) r l, tt))
all_good t false l = let k : (automaton t).is_live ≡ false = (automaton_runs t).is_live ∙ l in
    rw (l, k) tt

-- the place of a residual's number
good_at : (zs : List Residual) (ps : List Place) (rs : List Residual) → AllGood zs ps rs
    → (k : ℕ) (r : Residual) → slice_get rs k ≡ Some r → (p : Place) × (slice_get ps k ≡ Some p)
    × Good zs p r
good_at zs [] [] a k r h = cc
good_at zs [] (s ∷ rs) a k r h = absurd a
good_at zs (p ∷ ps) [] a k r h = cc
good_at zs (p ∷ ps) (s ∷ rs) a zero r h =
    (p, refl, subst (λ (v : Residual). Good zs p v) (let e : s ≡ r = cc in e) a.0)
good_at zs (p ∷ ps) (s ∷ rs) a (suc k) r h = good_at zs ps rs a.1 k r h

pub place_at : (t : Tree) (k : ℕ) (r : Residual) → slice_get (all_residuals t) k ≡ Some r
    → (p : Place) × (slice_get (all_places (automaton t)) k ≡ Some p) × Good (all_residuals t) p r
place_at t k r h = good_at (all_residuals t) (all_places (automaton t)) (all_residuals t)
    (all_good t (has_texts t) refl) k r h

pub as_many : (t : Tree) → length (all_places (automaton t)) ≡ length (all_residuals t)
as_many t = good_length (all_residuals t) (all_places (automaton t)) (all_residuals t)
    (all_good t (has_texts t) refl)

-- a step to one of the numbers
goes_to : (zs : List Residual) (qs : List ℕ) (b : ℕ) (t : List ℕ) → Goes zs qs b t → (q : ℕ)
    × (list_any (λ n. n == q) qs ≡ true) × Takes zs q b t
goes_to zs [] b t h = absurd h
goes_to zs (q ∷ qs) b t (inl h) = (q, or_left (q == q) _ (grind arith), h)
goes_to zs (q ∷ qs) b t (inr h) = let r = goes_to zs qs b t h in
    (r.0, or_right (q == r.0) _ r.1, r.2)

pub to_goes : (zs : List Residual) (qs : List ℕ) (b : ℕ) (t : List ℕ) (q : ℕ)
    → list_any (λ n. n == q) qs ≡ true → Takes zs q b t → Goes zs qs b t
to_goes zs [] b t q h k = cc
to_goes zs (p ∷ qs) b t q h k =
    elim (or_cases (p == q) _ h) [
      | inl e ↦ (let f : p ≡ q = grind arith in inl (subst (λ n. Takes zs n b t) (sym f) k))
      | inr e ↦
          inr (to_goes zs qs b t q e k)
    ]

-- the new states are those that one of the old ones leads to, and that take the byte
pub record IsStep (places : List Place) (old new : List ℕ) (b : ℕ) : Type 0 where
  pub onto : (p q : ℕ) → bit old p ≡ true → leads (slice_get places p) q ≡ true
      → has (slice_get places q) b ≡ true → bit new q ≡ true
  pub from : (q : ℕ) → bit new q ≡ true → (has (slice_get places q) b ≡ true)
      × ((p : ℕ) × (bit old p ≡ true) × (leads (slice_get places p) q ≡ true))

pub step_onto : (t : Tree) (old new : List ℕ) (b : ℕ) → IsStep (all_places (automaton t)) old new b
    → (rest : List ℕ) → IsMarked t old (b ∷ rest) → IsMarked t new rest
step_onto t old new b s rest (k, r, e, m, i) =
    let p = place_at t k r e in
    let g = goes_to (all_residuals t) p.0.next b rest (p.2.onto b rest i) in
    let z = g.2 in
    let y = place_at t g.0 z.0 z.1 in
    let l : leads (slice_get (all_places (automaton t)) k) g.0 ≡ true = rw p.1 g.1 in
    let h : has (slice_get (all_places (automaton t)) g.0) b ≡ true = rw (y.1, y.2.bytes) z.2 in
    (g.0, z.0, z.1, s.onto k g.0 m l h, z.3)

-- a number that leads on is a place's
leads_from : (p : Option Place) (q : ℕ) → leads p q ≡ true → (place : Place) × (p ≡ Some place)
leads_from None q h = cc
leads_from (Some place) q h = (place, refl)

place_good : (zs : List Residual) (ps : List Place) (rs : List Residual) → AllGood zs ps rs
    → (k : ℕ) (p : Place) → slice_get ps k ≡ Some p → (r : Residual) × (slice_get rs k ≡ Some r)
    × Good zs p r
place_good zs [] [] a k p h = cc
place_good zs [] (s ∷ rs) a k p h = absurd a
place_good zs (q ∷ ps) [] a k p h = absurd a
place_good zs (q ∷ ps) (s ∷ rs) a zero p h =
    (s, refl, subst (λ (v : Place). Good zs v s) (let e : q ≡ p = cc in e) a.0)
place_good zs (q ∷ ps) (s ∷ rs) a (suc k) p h = place_good zs ps rs a.1 k p h

pub residual_at : (t : Tree) (k : ℕ) (p : Place) → slice_get (all_places (automaton t)) k ≡ Some p
    → (r : Residual) × (slice_get (all_residuals t) k ≡ Some r) × Good (all_residuals t) p r
residual_at t k p h = place_good (all_residuals t) (all_places (automaton t)) (all_residuals t)
    (all_good t (has_texts t) refl) k p h

any_within : (n : ℕ) (qs : List ℕ) (q : ℕ) → Within n qs → list_any (λ m. m == q) qs ≡ true → q < n
any_within n [] q w h = cc
any_within n (m ∷ qs) q w h =
    elim (or_cases (m == q) _ h) [
      | inl e ↦ (let f : m ≡ q = grind arith in let g : m < n = w.0 in omega arith)
      | inr r ↦
          any_within n qs q w.1 r
    ]

-- what follows a place is a place
pub next_within : (t : Tree) (p q : ℕ) → leads (slice_get (all_places (automaton t)) p) q ≡ true
    → q < length (all_places (automaton t))
next_within t p q h =
    let f = leads_from (slice_get (all_places (automaton t)) p) q h in
    let r = residual_at t p f.0 f.1 in
    let l : list_any (λ n. n == q) f.0.next ≡ true = rw f.1 at h in
    let w : q < length (all_residuals t) = any_within (length (all_residuals t)) f.0.next q
    r.2.within l in
    let n = as_many t in
    omega arith

pub step_from : (t : Tree) (old new : List ℕ) (b : ℕ) → IsStep (all_places (automaton t)) old new b
    → (rest : List ℕ) → IsMarked t new rest → IsMarked t old (b ∷ rest)
step_from t old new b s rest (q, z, e, m, i) =
    let f = s.from q m in
    let y = place_at t q z e in
    let from = leads_from (slice_get (all_places (automaton t)) f.1.0) q f.1.2 in
    let r = residual_at t f.1.0 from.0 from.1 in
    let l : list_any (λ n. n == q) from.0.next ≡ true = rw from.1 at f.1.2 in
    let h : list_any (λ c. c == b) z.0 ≡ true = rw (y.1, y.2.bytes) at f.0 in (
      f.1.0,
      r.0,
      r.1,
      f.1.1,
      r.2.from b rest
          (to_goes (all_residuals t) from.0.next b rest q l (z, e, h, i)),
    )

-- the test finds a state that ends a text
pub record IsEnd (places : List Place) (states : List ℕ) (v : Bool) : Type 0 where
  pub onto : (p : ℕ) → bit states p ≡ true → ends (slice_get places p) ≡ true → v ≡ true
  pub from : v ≡ true → (p : ℕ) × (bit states p ≡ true) × (ends (slice_get places p) ≡ true)

pub ends_from : (p : Option Place) → ends p ≡ true → (place : Place) × (p ≡ Some place)
ends_from None h = cc
ends_from (Some place) h = (place, refl)

pub end_from : (t : Tree) (states : List ℕ) (v : Bool) → IsEnd (all_places (automaton t)) states v
    → v ≡ true → IsMarked t states []
end_from t states v s e =
    let f = s.from e in
    let x = ends_from (slice_get (all_places (automaton t)) f.0) f.2 in
    let r = residual_at t f.0 x.0 x.1 in
    let l : x.0.is_last ≡ true = rw x.1 at f.2 in
    (f.0, r.0, r.1, f.1, empty_in r.0.1 (sym r.2.last ∙ l))

pub end_onto : (t : Tree) (states : List ℕ) (v : Bool) → IsEnd (all_places (automaton t)) states v
    → IsMarked t states [] → v ≡ true
end_onto t states v s f =
    let p = place_at t f.0 f.1 f.2 in
    s.onto f.0 f.3 (rw p.1 (p.2.last ∙ in_empty f.1.1 f.4))

pub record IsAny (states : List ℕ) (v : Bool) : Type 0 where
  pub onto : (k : ℕ) → bit states k ≡ true → v ≡ true
  pub from : v ≡ true → (k : ℕ) × (bit states k ≡ true)

get_some : (zs : List Residual) (k : ℕ) → k < length zs → (z : Residual) × (slice_get zs k ≡ Some z)
get_some [] k h = absurd (omega arith)
get_some (z ∷ zs) zero h = (z, refl)
get_some (z ∷ zs) (suc k) h = get_some zs k (omega arith)

pub any_left : (t : Tree) (states : List ℕ) (v : Bool) → AreMarks t states → IsAny states v
    → v ≡ true → (text : List ℕ) × IsMarked t states text
any_left t states v a s e = at (s.from e)
  where
    at : (k : ℕ) × (bit states k ≡ true) → (text : List ℕ) × IsMarked t states text
    at (k, m) = within (cases_lt k (length (all_residuals t)))
      where
        within : (k < length (all_residuals t)) ⊎ (length (all_residuals t) ≤ k) → (text : List ℕ)
            × IsMarked t states text
        within (inl l) = let z = get_some (all_residuals t) k l in let g = place_at t k z.0 z.1 in
            let x = text_of z.0.1 g.2.live in (x.0, (k, z.0, z.1, m, x.1))
        within (inr l) = let c : bit states k ≡ false = a.none_past k l in let d : true ≡ false =
            sym m ∙ c in cc

pub left_any : (t : Tree) (states : List ℕ) (v : Bool) → IsAny states v → (text : List ℕ)
    → IsMarked t states text → v ≡ true
left_any t states v s text f = s.onto f.0 f.3

-- the last residual is the whole pattern
pub record IsStart (places : List Place) (states : List ℕ) : Type 0 where
  pub onto : (k : ℕ) → suc k ≡ length places → bit states k ≡ true
  pub from : (k : ℕ) → bit states k ≡ true → suc k ≡ length places

-- the start leaves the language
pub record Starts (t : Tree) (states : List ℕ) : Type 0 where
  pub onto : (rest : List ℕ) → In t rest → IsMarked t states rest
  pub from : (rest : List ℕ) → IsMarked t states rest → In t rest

starts_live : (t : Tree) (states : List ℕ) → IsStart (all_places (automaton t)) states
    → has_texts t ≡ true → Starts t states
starts_live t states s l = record {
  onto = λ rest i. (
    length (residuals t),
    (0 ∷ [], t),
    last,
    s.onto (length (residuals t))
        (sym long),
    i,
  );
  from = λ rest f. from rest f;
}
  where
    all : all_residuals t ≡ residuals t ++ (0 ∷ [], t) ∷ []
    all = rw l refl

    last : slice_get (all_residuals t) (length (residuals t)) ≡ Some (0 ∷ [], t)
    last = let e : 0 + length (residuals t) ≡ length (residuals t) = omega arith in
        rw (all, ← e) (get_right (residuals t) ((0 ∷ [], t) ∷ []) 0)

    long : length (all_places (automaton t)) ≡ suc (length (residuals t))
    long = as_many t ∙ rw (all, length-append) (omega arith)

    from : (rest : List ℕ) → IsMarked t states rest → In t rest
    from rest (k, r, e, m, i) =
        let n : suc k ≡ suc (length (residuals t)) = s.from k m ∙ long in
        let q : k ≡ length (residuals t) = omega arith in
        let g : slice_get (all_residuals t) k ≡ Some (0 ∷ [], t) =
        subst (λ n. slice_get (all_residuals t) n ≡ Some (0 ∷ [], t)) (sym q) last in
        let z : r ≡ (0 ∷ [], t) = cc in
        subst (λ (v : Residual). In v.1 rest) z i

pub starts : (t : Tree) (states : List ℕ) (v : Bool) → has_texts t ≡ v
    → IsStart (all_places (automaton t)) states → Starts t states
starts t states true l s = starts_live t states s l
starts t states false l s = record {
  onto = λ rest i. let c : has_texts t ≡ true = has_text t rest i in let d : true ≡ false =
      sym c ∙ l in cc;
  from = λ rest f. from rest f;
}
  where
    none : all_residuals t ≡ []
    none = rw l refl

    from : (rest : List ℕ) → IsMarked t states rest → In t rest
    from rest (k, r, e, m, i) = let g : slice_get [] k ≡ Some r = rw none at e in
        absurd (nothing_at k r g)
      where
        nothing_at : (k : ℕ) (r : Residual) → slice_get [] k ≡ Some r → ⊥
        nothing_at k r g = cc
