-- Loops and steady places, by what follows single places.
use Rattle.std.proofs.Common.{◌≡◌, refl, sym, ◌∙◌, ap, subst, ℕ, zero, suc, ◌+◌, ◌*◌, ◌<◌, ◌≤◌}
use Rattle.std.proofs.Common.{◌==◌, ◌⊎◌, inl, inr, Bool, true, false, List, [], ◌∷◌, length}
use Rattle.std.proofs.Common.{Option, Some, None, Decides, arith}
use Rattle.std.specs.Prelude.{◌&&◌, slice_get}
use Rattle.std.specs.Cmp.{both_ways, first_so, second_so}
use Rattle.std.proofs.lemmas.Bool.{and_from, cases_lt, cases_order, eq-eqb, eqb-true}
use Rattle.std.proofs.lemmas.Bool.{false_from_ne_true}
use Rattle.std.proofs.lemmas.Bool.Decides.{Decides-like}
use Rattle.std.proofs.lemmas.Option.{slice_get_past}
use Rattle.pattern_syntax.specs.Tree.{Tree}
use Rattle.pattern_match.specs.Automaton.{Place, automaton, all_places}
use Rattle.pattern_match.specs.Class.{HasEachByte}
use Rattle.pattern_match.specs.Loops.{IsRow}
use Rattle.pattern_match.specs.LoopTests.{ends_before, follows_end, is_loop_behind, is_onward}
use Rattle.pattern_match.specs.Over.{ends_among, enters, follows_marked, place_admitted}
use Rattle.pattern_match.specs.Settled.{IsOnward, IsSteadyPlace, LeadsOnward}
use Rattle.pattern_match.specs.States.{bit}
use Rattle.pattern_match.specs.Tables.{any_under, ends, has, leads}
use Rattle.pattern_match.specs.declared.entry.EnteredPlaces.{EnteredPlaces}
use Rattle.pattern_match.specs.declared.entry.EnteredPlaces.TheVariants.{ByEach, Free}
use Rattle.pattern_match.proofs.EachByte.{each_byte}
use Rattle.pattern_match.proofs.RunTables.{any_from, any_to, ends_within, leads_within}
use Rattle.pattern_match.proofs.Stepping.{next_within}
use Rattle.pattern_match.proofs.WordBits.{no_word}

-- ---- one place alone

-- some marked one of the numbers below passes where the only one that is marked does
one_under : (test : ℕ → Bool) (alone : List ℕ) (n p : ℕ) → ((q : ℕ) → bit alone q ≡ (q == p))
    → (test p ≡ true → p < n) → any_under (λ k. bit alone k && test k) n ≡ test p
one_under test alone n p only within = both_ways _ (test p) onto from
  where
    onto : any_under (λ k. bit alone k && test k) n ≡ true → test p ≡ true
    onto h =
        let a = any_from (λ k. bit alone k && test k) n h in
        let e : a.0 ≡ p = eqb-true a.0 p (sym (only a.0) ∙ first_so (bit alone a.0) _ a.2) in
        subst (λ k. test k ≡ true) e (second_so (bit alone a.0) _ a.2)

    from : test p ≡ true → any_under (λ k. bit alone k && test k) n ≡ true
    from h = any_to (λ k. bit alone k && test k) n p (within h)
        (and_from _ _ (only p ∙ eq-eqb p p refl) h)

pub follows_alone : (places : List Place) (entry : EnteredPlaces) (alone : List ℕ) (p : ℕ)
    → ((q : ℕ) → bit alone q ≡ (q == p)) → (q : ℕ) → enters entry places alone q
    ≡ (leads (slice_get places p) q && place_admitted entry (slice_get places q))
follows_alone places entry alone p only q =
    ap (λ v. v && place_admitted entry (slice_get places q))
    (one_under (λ k. leads (slice_get places k) q) alone (length places) p only
    (leads_within places p q))

pub ends_alone : (places : List Place) (alone : List ℕ) (p : ℕ)
    → ((q : ℕ) → bit alone q ≡ (q == p)) → ends_among places alone ≡ ends (slice_get places p)
ends_alone places alone p only = one_under (λ k. ends (slice_get places k)) alone (length places) p
    only (ends_within places p)

-- what each marked number below one is, and that one too, is each marked one below the next
pub marked_more : (marks : List ℕ) (P : ℕ → Type 0) (i n : ℕ)
    → ((k : ℕ) → k < i → bit marks k ≡ true → P k) → P i
    → ((k : ℕ) → i + 1 ≤ k → k < n → bit marks k ≡ false) → (k : ℕ) → k < n → bit marks k ≡ true
    → P k
marked_more marks P i n before here none k l m = at (cases_order k i)
  where
    at : (k ≡ i) ⊎ ((k < i) ⊎ (i < k)) → P k
    at (inl e) = subst P (sym e) here
    at (inr (inl u)) = before k u m
    at (inr (inr u)) = let d : true ≡ false = sym m ∙ none k (omega arith) l in cc

-- ---- which places may be entered

free_admits : (places : List Place) (q : ℕ) → q < length places
    → place_admitted Free (slice_get places q) ≡ true
free_admits [] q l = absurd (omega arith)
free_admits (place ∷ places) zero l = refl
free_admits (place ∷ places) (suc q) l = free_admits places q (omega arith)

-- a place that follows may be entered, unless a byte is asked for
free_leads : (t : Tree) (p q : ℕ) → (leads (slice_get (all_places (automaton t)) p) q
    && place_admitted Free (slice_get (all_places (automaton t)) q))
    ≡ leads (slice_get (all_places (automaton t)) p) q
free_leads t p q =
    both_ways _ (leads (slice_get (all_places (automaton t)) p) q)
    (first_so (leads (slice_get (all_places (automaton t)) p) q) _)
    (λ h. and_from _ _ h (free_admits (all_places (automaton t)) q (next_within t p q h)))

-- behind a place that ends, what leads to another
pub end_leads : (t : Tree) (p q : ℕ) (row : List ℕ) (last marked : Bool)
    → last ≡ ends (slice_get (all_places (automaton t)) p) → last ≡ true
    → marked ≡ bit row (64 * 0 + q)
    → ((k : ℕ) → bit row k ≡ (leads (slice_get (all_places (automaton t)) p) k
    && place_admitted Free (slice_get (all_places (automaton t)) k)))
    → marked ≡ ends_before (all_places (automaton t)) q p
end_leads t p q row last marked e h m bits =
    let k : 64 * 0 + q ≡ q = omega arith in
    m ∙ ap (bit row) k ∙ bits q ∙ free_leads t p q
    ∙ ap (λ v. v && leads (slice_get (all_places (automaton t)) p) q) (sym h ∙ e)

admits_each : (place : Option Place) → Decides (place_admitted ByEach place)
    (HasEachByte (has place))
admits_each None = (λ e. cc, λ each. each 1 (omega arith) (omega arith))
admits_each (Some place) = each_byte (has (Some place))

admitted_within : (places : List Place) (entry : EnteredPlaces) (q : ℕ)
    → place_admitted entry (slice_get places q) ≡ true → q < length places
admitted_within places entry q h = at (cases_lt q (length places))
  where
    at : (q < length places) ⊎ (length places ≤ q) → q < length places
    at (inl l) = l
    at (inr l) = let e : false ≡ true =
        ap (place_admitted entry) (sym (slice_get_past places q l)) ∙ h in cc

-- ---- loops

loops_on : (places : List Place) (q : ℕ) → is_onward places q ≡ true → IsOnward places q
loops_on places q h =
    let b = first_so (ends_before places q q) _ h in record {
      last = first_so (ends (slice_get places q)) _ b;
      again = second_so (ends (slice_get places q)) _ b;
      takes = (admits_each (slice_get places q)).0 (second_so (ends_before places q q) _ h);
    }

is_loop : (places : List Place) (q : ℕ) → IsOnward places q → is_onward places q ≡ true
is_loop places q o = and_from _ _ (and_from _ _ o.last o.again)
    ((admits_each (slice_get places q)).1 o.takes)

pub end_before : (places : List Place) (marks : List ℕ) (q p : ℕ) → p < length places
    → bit marks p ≡ true → ends_before places q p ≡ true → follows_end places marks q ≡ true
end_before places marks q p l m e =
    any_to (λ k. bit marks k && ends_before places q k) (length places) p l (and_from _ _ m e)

pub no_end_before : (places : List Place) (marks : List ℕ) (q n : ℕ) → length places ≤ n
    → ((p : ℕ) → p < n → bit marks p ≡ true → ends_before places q p ≡ false)
    → follows_end places marks q ≡ false
no_end_before places marks q n l none = false_from_ne_true (follows_end places marks q)
    (λ h. let a = any_from (λ p. bit marks p && ends_before places q p) (length places) h in
    let u : a.0 < n = (let v : a.0 < length places = a.1 in omega arith) in
    let e : false ≡ true =
    sym (none a.0 u (first_so (bit marks a.0) _ a.2)) ∙ second_so (bit marks a.0) _ a.2 in cc)

-- some marked place leads to a loop
abbrev pub LoopBehind : List Place → List ℕ → Type 0
LoopBehind places marks = (p : ℕ) × (bit marks p ≡ true) × LeadsOnward places p

pub loop_found : (places : List Place) (marks : List ℕ) (q : ℕ)
    → is_loop_behind places marks q ≡ true → LoopBehind places marks
loop_found places marks q h =
    let o = first_so (is_onward places q) _ h in
    let f = second_so (is_onward places q) _ h in
    let a = any_from (λ p. bit marks p && ends_before places q p) (length places) f in
    let b = second_so (bit marks a.0) _ a.2 in (
      a.0,
      first_so (bit marks a.0) _ a.2,
      record {
        last = first_so (ends (slice_get places a.0)) _ b;
        next = q;
        follows = second_so (ends (slice_get places a.0)) _ b;
        onward = loops_on places q o;
      },
    )

pub none_ends : (places : List Place) (marks : List ℕ) → ends_among places marks ≡ false
    → LoopBehind places marks → ⊥
none_ends places marks e (p, m, o) =
    let h : ends_among places marks ≡ true = any_to (λ k. bit marks k && ends (slice_get places k))
    (length places) p (ends_within places p o.last) (and_from _ _ m o.last) in
    let d : false ≡ true = sym e ∙ h in
    cc

pub none_found : (places : List Place) (marks row : List ℕ) (n : ℕ) → length places ≤ n
    → ((q : ℕ) → bit row q ≡ enters ByEach places marks q)
    → ((q : ℕ) → q < n → bit row q ≡ true → is_loop_behind places marks q ≡ false)
    → LoopBehind places marks → ⊥
none_found places marks row n l made none (p, m, o) =
    let w = ends_within places p o.last in
    let u = ends_within places o.next o.onward.last in
    let f : follows_marked places marks o.next ≡ true =
    any_to (λ k. bit marks k && leads (slice_get places k) o.next) (length places) p w
    (and_from _ _ m o.follows) in
    let r : bit row o.next ≡ true =
    made o.next ∙ and_from _ _ f ((admits_each (slice_get places o.next)).1 o.onward.takes) in
    let e : follows_end places marks o.next ≡ true = end_before places marks o.next p w m
    (and_from _ _ o.last o.follows) in
    let t : is_loop_behind places marks o.next ≡ true =
    and_from _ _ (is_loop places o.next o.onward) e in
    let d : false ≡ true = sym (none o.next (omega arith) r) ∙ t in
    cc

-- ---- steady places

pub same_row : (words found : List ℕ) → length found ≡ length words → IsRow words found 0 → (q : ℕ)
    → bit found q ≡ bit words q
same_row words found l h q = at (cases_lt q (64 * length words))
  where
    at : (q < 64 * length words) ⊎ (64 * length words ≤ q) → bit found q ≡ bit words q
    at (inl u) = let e : 64 * 0 + q ≡ q = omega arith in ap (bit found) (sym e) ∙ h q u
    at (inr u) =
        let m : 64 * length found ≡ 64 * length words = ap (λ k. 64 * k) l in
        no_word found q (omega arith) ∙ sym (no_word words q u)

pub row_same : (words found : List ℕ) → ((q : ℕ) → bit found q ≡ bit words q) → IsRow words found 0
row_same words found h k l = let e : 64 * 0 + k ≡ k = omega arith in ap (bit found) e ∙ h k

-- a row of what follows a place is that of the marks where it leads to those
pub leads_row : (t : Tree) (marks found : List ℕ) (p : ℕ) (v : Bool) → length found ≡ length marks
    → ((q : ℕ) → bit found q ≡ (leads (slice_get (all_places (automaton t)) p) q
    && place_admitted Free (slice_get (all_places (automaton t)) q)))
    → Decides v (IsRow marks found 0)
    → Decides v ((q : ℕ) → leads (slice_get (all_places (automaton t)) p) q ≡ bit marks q)
leads_row t marks found p v l bits =
    Decides-like v (λ h q. sym (bits q ∙ free_leads t p q) ∙ same_row marks found l h q)
    (λ h. row_same marks found (λ q. bits q ∙ free_leads t p q ∙ h q))

-- each marked place is steady
abbrev pub AllSteady : List Place → List ℕ → Type 0
AllSteady places marks = (p : ℕ) → bit marks p ≡ true → IsSteadyPlace places marks p

-- what follows steady places by every byte are these
pub steady_follow : (places : List Place) (marks : List ℕ) → AllSteady places marks → (q : ℕ)
    → enters ByEach places marks q ≡ bit marks q
steady_follow places marks each q = both_ways _ (bit marks q) onto from
  where
    onto : enters ByEach places marks q ≡ true → bit marks q ≡ true
    onto h =
        let a = any_from (λ k. bit marks k && leads (slice_get places k) q) (length places)
        (first_so (follows_marked places marks q) _ h) in
        sym ((each a.0 (first_so (bit marks a.0) _ a.2)).same q)
        ∙ second_so (bit marks a.0) _ a.2

    from : bit marks q ≡ true → enters ByEach places marks q ≡ true
    from m =
        let s = each q m in
        let l : leads (slice_get places q) q ≡ true = s.same q ∙ m in
        and_from _ _
        (any_to (λ k. bit marks k && leads (slice_get places k) q) (length places) q
        (leads_within places q q l) (and_from _ _ m l)) ((admits_each (slice_get places q)).1
        s.takes)

-- where the marked places are what follows them by every byte, and each leads to all, all are
-- steady
pub all_steady : (places : List Place) (marks : List ℕ) (n : ℕ) → length places ≤ n
    → ((q : ℕ) → bit marks q ≡ enters ByEach places marks q)
    → ((p : ℕ) → p < n → bit marks p ≡ true → (q : ℕ) → leads (slice_get places p) q ≡ bit marks q)
    → AllSteady places marks
all_steady places marks n l made same p m =
    let a = second_so (follows_marked places marks p) _ (sym (made p) ∙ m) in
    let u = admitted_within places ByEach p a in
    record { same = same p (omega arith) m; takes = (admits_each (slice_get places p)).0 a }
