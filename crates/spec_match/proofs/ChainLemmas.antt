-- The last specification that fits, by the chains of those whose literal start the text begins
-- with.
use Rattle.std.proofs.Common.{◌≡◌, ◌≢◌, ◌∙◌, refl, sym, ap, ap₂, subst, ℕ, zero, suc, ◌+◌, ◌<◌, ◌≤◌}
use Rattle.std.proofs.Common.{◌==◌, ◌⊎◌, inl, inr, Bool, true, false, List, [], ◌∷◌, ◌++◌, Option}
use Rattle.std.proofs.Common.{None, Some, length, length-append, length-set, get_or}
use Rattle.std.proofs.Common.{get_or-set_same, get_or-set_other, set, slice_index, take, map}
use Rattle.std.proofs.Common.{eqb-true, eq-eqb, true≢false, arith}
use Rattle.std.specs.Prelude.{◌&&◌, ◌||◌, IfSome}
use Rattle.std.proofs.Math.ListN.{get_or-append}
use Rattle.std.proofs.Math.Seq.{take-append_seam}
use Rattle.std.proofs.lemmas.Bool.{cases_lt, and_left, false_from_ne_true}
use Rattle.std.proofs.lemmas.List.{get_or_default, get_or_push, take_more}
use Rattle.spec_match.proofs.LastLemmas.{at_place}
use Rattle.std.specs.Cmp.{second_so}
use Rattle.label_base.specs.Bounded.{any_below, greater, greatest_below, last_or_found}
use Rattle.label_base.specs.declared.kind.Asked.{Asked}
use Rattle.label_base.specs.Kind.{applies}
use Rattle.label_base.proofs.BoundedLemmas.{IsGreatest, any_at, greater_below, greatest_agree}
use Rattle.label_base.proofs.BoundedLemmas.{greatest_bound, greatest_is, greatest_none}
use Rattle.label_base.proofs.BoundedLemmas.{greatest_shown}
use Rattle.pattern_syntax.proofs.BehindLemmas.{cut_behind_start}
use Rattle.pattern_match.proofs.Holding.{holds_shows}
use Rattle.pattern_syntax.specs.Language.{holds}
use Rattle.pattern_syntax.specs.Literal.{literal_start_of}
use Rattle.spec_match.specs.Alive.{pattern_at}
use Rattle.spec_match.specs.Chains.{AreChained, bucket_of, does_fit, fits_at, fits_from, hashed}
use Rattle.spec_match.specs.Chains.{is_in_bucket, link, mixed, own_bucket, starts_at}
use Rattle.spec_match.specs.LastMatch.{fits}
use Rattle.spec_match.specs.Remembering.{IsAnswer}
use Rattle.spec_match.specs.StatesFor.{patterns_of, spec_in}
use Rattle.spec_match.specs.declared.compiled_spec.CompiledSpec.{CompiledSpec}
use Rattle.spec_match.proofs.AnswerLemmas.{found_answer, none_answer, none_back, past}
use Rattle.spec_match.proofs.AnswerLemmas.{pattern_of_rule}
use Rattle.spec_reader.specs.SpecValue.{SpecValue}

pub hashed_on : (hash : ℕ) (text : List ℕ) (byte : ℕ) → hashed hash (text ++ byte ∷ [])
    ≡ mixed (hashed hash text) byte
hashed_on hash [] byte = refl
hashed_on hash (b ∷ text) byte = hashed_on (mixed hash b) text byte

pub hashed_more : (text : List ℕ) (i : ℕ) (d : ℕ) → i < length text → hashed 0 (take (i + 1) text)
    ≡ mixed (hashed 0 (take i text)) (get_or text i d)
hashed_more text i d l = ap (hashed 0) (take_more text i d l)
    ∙ hashed_on 0 (take i text) (get_or text i d)

pub before_or_last : (i n : ℕ) → i < n + 1 → (i < n) ⊎ (n ≡ i)
before_or_last i n l =
    elim (cases_lt i n) [ inl before ↦ inl before | inr after ↦ inr (omega (arith, after, l)) ]

-- ---- chains are made

module _ (rules : List CompiledSpec) (count : ℕ) where
  head_by : (n : ℕ) (heads : List ℕ) (b q : ℕ) (same : Bool) → (q == b) ≡ same
      → b ≡ own_bucket rules count n → b < length heads
      → slice_index heads q ≡ link (greatest_below n (is_in_bucket rules count q))
      → slice_index (set heads b (suc n)) q
      ≡ link (greatest_below (suc n) (is_in_bucket rules count q))
  head_by n heads b q true t own w h =
      let here : q ≡ b = eqb-true q b t in
      let passes : is_in_bucket rules count q n ≡ true =
      eq-eqb (own_bucket rules count n) q (sym own ∙ sym here) in
      ap (slice_index (set heads b (suc n))) here ∙ get_or-set_same heads b (suc n) 0 w
      ∙ sym (ap (λ v. link (last_or_found (greatest_below n (is_in_bucket rules count q)) n v))
      passes)
  head_by n heads b q false t own w h =
      let other : q ≢ b = λ e. true≢false (sym (eq-eqb q b e) ∙ t) in
      let fails : is_in_bucket rules count q n ≡ false =
      false_from_ne_true (is_in_bucket rules count q n)
      (λ e. other (sym (eqb-true (own_bucket rules count n) q e) ∙ sym own)) in
      get_or-set_other heads b q (suc n) 0 other ∙ h
      ∙ sym (ap (λ v. link (last_or_found (greatest_below n (is_in_bucket rules count q)) n v))
      fails)

  pub chained_on : (n b : ℕ) (heads previous : List ℕ) → b ≡ own_bucket rules count n → b < count
      → AreChained rules count n heads previous
      → AreChained rules count (n + 1) (set heads b (n + 1)) (previous ++ slice_index heads b ∷ [])
  chained_on n b heads previous own w c =
      let next : n + 1 ≡ suc n = omega arith in
      rw next (record {
        some = c.some;
        buckets = length-set heads b (suc n) ∙ c.buckets;
        all = omega (arith, length-append previous (slice_index heads b ∷ []), c.all);
        last = λ q l. head_by n heads b q (q == b) refl own (omega (arith, w, c.buckets))
            (c.last q l);
        before = λ i l. elim (before_or_last i n (omega (arith, l))) [
          | inl old ↦ get_or-append previous (slice_index heads b ∷ []) 0 i
              (omega (arith, old, c.all)) ∙ c.before i old
          | inr here ↦ get_or_push previous (slice_index heads b) 0 i (c.all ∙ here) ∙ c.last b w
              ∙ ap₂ (λ k q. link (greatest_below k (is_in_bucket rules count q))) here
              (own ∙ ap (own_bucket rules count) here)
        ];
      })

  pub none_chained : (heads : List ℕ) → 0 < count → length heads ≡ count
      → ((b : ℕ) → b < count → slice_index heads b ≡ 0) → AreChained rules count 0 heads []
  none_chained heads some size zeros = record {
    some = some;
    buckets = size;
    all = refl;
    last = λ b l. zeros b l;
    before = λ i l. absurd (omega (arith, l));
  }

  -- where a bucket leads to, and where its specification leads on
  pub head_leads : (n b known : ℕ) (heads previous : List ℕ)
      → AreChained rules count n heads previous → b < count → known ≡ get_or heads b known
      → known ≡ link (greatest_below n (is_in_bucket rules count b))
  head_leads n b known heads previous c w e =
      e ∙ sym (get_or_default heads b 0 known (omega (arith, w, c.buckets))) ∙ c.last b w

  pub place_leads : (n b i known : ℕ) (heads previous : List ℕ)
      → AreChained rules count n heads previous → i < n → is_in_bucket rules count b i ≡ true
      → known ≡ get_or previous i known
      → known ≡ link (greatest_below i (is_in_bucket rules count b))
  place_leads n b i known heads previous c w t e =
      e ∙ sym (get_or_default previous i 0 known (omega (arith, w, c.all))) ∙ c.before i w
      ∙ ap (λ q. link (greatest_below i (is_in_bucket rules count q)))
      (eqb-true (own_bucket rules count i) b t)

-- ---- a chain is gone through

pub linked : (found : Option ℕ) (i : ℕ) → suc i ≡ link found → found ≡ Some i
linked None i e = absurd (omega (arith, e))
linked (Some j) i e = ap Some (omega (arith, e))

pub unlinked : (found : Option ℕ) → 0 ≡ link found → found ≡ None
unlinked None e = refl
unlinked (Some j) e = absurd (omega (arith, e))

and_here : (a b c : Bool) → a ≡ true → b ≡ c → (a && b) ≡ c
and_here true b c e f = f
and_here false b c e f = cc

low_by : (n : ℕ) (found : Option ℕ) → IfSome found (λ k. k < n) → link found ≤ n
low_by n None h = omega arith
low_by n (Some k) h = omega (arith, h)

pub link_low : (n : ℕ) (p : ℕ → Bool) → link (greatest_below n p) ≤ n
link_low n p = low_by n (greatest_below n p) (greatest_bound n p)

-- the number leads on to the last one below a bound, and from the bound on none passes
pub record IsNext (n : ℕ) (p q : ℕ → Bool) (at : ℕ) : Type 0 where
  pub bound : ℕ
  pub within : bound ≤ n
  pub leads : at ≡ link (greatest_below bound p)
  pub same : greatest_below n (λ i. p i && q i) ≡ greatest_below bound (λ i. p i && q i)

pub next_begun : (n : ℕ) (p q : ℕ → Bool) (at : ℕ) → at ≡ link (greatest_below n p)
    → IsNext n p q at
next_begun n p q at e = record { bound = n; within = omega arith; leads = e; same = refl }

module _ (n : ℕ) (p q : ℕ → Bool) (at i : ℕ) (here : suc i ≡ at) (next : IsNext n p q at) where
  place : IsGreatest next.bound p (Some i)
  place = subst (IsGreatest next.bound p)
      (linked (greatest_below next.bound p) i (here ∙ next.leads)) (greatest_shown next.bound p)

  pub next_within : i < n
  next_within = let l : i < next.bound = place.0 in omega (arith, l, next.within)

  pub next_in : p i ≡ true
  next_in = place.1

  none_above : (j : ℕ) → i < j → j < next.bound → (p j && q j) ≡ false
  none_above j a b = and_left (p j) (q j) (place.2 j a b)

  pub next_found : q i ≡ true → Some i ≡ greatest_below n (λ i. p i && q i)
  next_found t =
      sym (next.same ∙ greatest_is next.bound (λ i. p i && q i) i place.0
      (and_here (p i) (q i) true place.1 t) none_above)

  shorter : (m : ℕ) → i < m → m ≤ next.bound → (p i && q i) ≡ false
      → greatest_below m (λ i. p i && q i) ≡ greatest_below i (λ i. p i && q i)
  shorter zero l w f = absurd (omega (arith, l))
  shorter (suc m) l w f = elim (before_or_last i m (omega (arith, l))) [
    | inl below ↦ ap (λ v. last_or_found (greatest_below m (λ i. p i && q i)) m v)
        (none_above m below (omega (arith, w))) ∙ shorter m below (omega (arith, w)) f
    | inr same ↦ subst (λ k. greatest_below (suc k) (λ i. p i && q i) ≡ greatest_below i
        (λ i. p i && q i)) (sym same)
        (ap (λ v. last_or_found (greatest_below i (λ i. p i && q i)) i v) f)
  ]

  pub next_on : (new : ℕ) → q i ≡ false → new ≡ link (greatest_below i p) → IsNext n p q new
  next_on new f e =
      let l : i < next.bound = place.0 in record {
        bound = i;
        within = omega (arith, l, next.within);
        leads = e;
        same = next.same ∙ shorter next.bound l (omega arith)
            (and_here (p i) (q i) false place.1 f);
      }

pub next_ended : (n : ℕ) (p q : ℕ → Bool) (at : ℕ) → at ≡ 0 → IsNext n p q at
    → None ≡ greatest_below n (λ i. p i && q i)
next_ended n p q at e next =
    let none : IsGreatest next.bound p None =
    subst (IsGreatest next.bound p)
    (unlinked (greatest_below next.bound p) (sym e ∙ next.leads))
    (greatest_shown next.bound p) in
    sym (next.same ∙ greatest_none next.bound (λ i. p i && q i)
    (λ j l. and_left (p j) (q j) (none j l)))

-- ---- the buckets of a text's fronts

module _ (rules : List CompiledSpec) (count : ℕ) (text : List ℕ) (q : ℕ → Bool) where
  -- the specification is in the bucket of one of the fronts below a length
  abbrev pub is_seen : ℕ → ℕ → Bool
  is_seen k i =
      any_below k (λ j. is_in_bucket rules count (bucket_of count (take j text)) i && starts_at
      rules j i)

  abbrev pub IsSeen : ℕ → Option ℕ → Type 0
  IsSeen k found = found ≡ greatest_below (length rules) (λ i. is_seen k i && q i)

  spread : (a b c d : Bool) → ((a && d) || (b && (c && d))) ≡ ((a || (b && c)) && d)
  spread true true true true = refl
  spread true true true false = refl
  spread true true false true = refl
  spread true true false false = refl
  spread true false c true = refl
  spread true false c false = refl
  spread false true true d = refl
  spread false true false d = refl
  spread false false c d = refl

  pub seen_on : (k : ℕ) (found other : Option ℕ) → IsSeen k found
      → other ≡ greatest_below (length rules)
      (λ i. is_in_bucket rules count (bucket_of count (take k text)) i
      && (starts_at rules k i && q i)) → IsSeen (suc k) (greater found other)
  seen_on k found other h e =
      ap₂ greater h e
      ∙ greater_below (length rules) (λ i. is_seen k i && q i)
      (λ i. is_in_bucket rules count (bucket_of count (take k text)) i
      && (starts_at rules k i && q i))
      ∙ greatest_agree (length rules)
      (λ i. (is_seen k i && q i)
      || (is_in_bucket rules count (bucket_of count (take k text)) i
      && (starts_at rules k i && q i))) (λ i. is_seen (suc k) i && q i)
      (λ i l. spread (is_seen k i) (is_in_bucket rules count (bucket_of count (take k text)) i)
      (starts_at rules k i) (q i))

  pub none_seen : IsSeen 0 None
  none_seen = sym (greatest_none (length rules) (λ i. is_seen 0 i && q i) (λ i l. refl))

  none_greater : (other : Option ℕ) → greater None other ≡ other
  none_greater other = refl

  pub seen_first : (found : Option ℕ) → found ≡ greatest_below (length rules)
      (λ i. is_in_bucket rules count (bucket_of count (take 0 text)) i
      && (starts_at rules 0 i && q i)) → IsSeen 1 found
  seen_first found e = subst (IsSeen 1) (none_greater found) (seen_on 0 None found none_seen e)

  all_in : (i : ℕ) (v : Bool) → q i ≡ v → (q i ≡ true → is_seen (suc (length text)) i ≡ true)
      → (is_seen (suc (length text)) i && q i) ≡ q i
  all_in i true e h = and_here (is_seen (suc (length text)) i) (q i) (q i) (h e) refl
  all_in i false e h = past_and (is_seen (suc (length text)) i) (q i) e
    where
      past_and : (a b : Bool) → b ≡ false → (a && b) ≡ b
      past_and true b f = refl
      past_and false b f = sym f

  pub seen_all : (k : ℕ) (found : Option ℕ) → k ≡ suc (length text)
      → ((i : ℕ) → i < length rules → q i ≡ true → is_seen (suc (length text)) i ≡ true)
      → IsSeen k found → found ≡ greatest_below (length rules) q
  seen_all k found e f h =
      h ∙ ap (λ n. greatest_below (length rules) (λ i. is_seen n i && q i)) e
      ∙ greatest_agree (length rules) (λ i. is_seen (suc (length text)) i && q i) q
      (λ i l. all_in i (q i) refl (f i l))

-- ---- what fits begins with its literal start

module _ (asked : Asked) (text : List ℕ) where
  pub fits_here : (rules : List CompiledSpec) (i : ℕ) (rule : CompiledSpec) → i < length rules
      → rule ≡ get_or rules i rule → fits_at asked text rules i ≡ fits asked text rule.spec
  fits_here rules i rule l e = ap (does_fit asked text) (at_place rules i rule l)
      ∙ ap (λ (r : CompiledSpec). fits asked text r.spec) (sym e)

  pub fits_from_here : (rules : List CompiledSpec) (at i : ℕ) (rule : CompiledSpec)
      → i < length rules
      → rule ≡ get_or rules i rule → fits_from at asked text rules i
      ≡ ((length (literal_start_of rule.spec.pattern) == at) && fits asked text rule.spec)
  fits_from_here rules at i rule l e =
      let pattern = ap (λ (r : CompiledSpec). r.spec.pattern) e ∙ pattern_of_rule rules i rule l in
      ap₂ (λ a b. a && b) (ap (λ t. length (literal_start_of t) == at) (sym pattern))
      (fits_here rules i rule l e)

  start_seen : (rules : List CompiledSpec) (count i : ℕ) (spec : SpecValue)
      → spec.pattern ≡ pattern_at (patterns_of rules) i → fits asked text spec ≡ true
      → is_seen rules count text (fits_at asked text rules) (suc (length text)) i ≡ true
  start_seen rules count i spec e t =
      let start = literal_start_of spec.pattern in
      let held : holds spec.pattern text ≡ true =
      second_so (applies spec.kind asked) (holds spec.pattern text) t in
      let cut = (cut_behind_start spec.pattern text).0 ((holds_shows spec.pattern text).0 held) in
      let front : take (length start) text ≡ start = ap (take (length start)) cut.1
      ∙ take-append_seam start cut.0 in
      let low : length start < suc (length text) =
      omega (arith, ap (λ (w : List ℕ). length w) cut.1, length-append start cut.0) in
      any_at (suc (length text)) (λ j. is_in_bucket rules count (bucket_of count (take j text)) i
      && starts_at rules j i) (length start) low
      (and_here (is_in_bucket rules count (bucket_of count (take (length start) text)) i)
      (starts_at rules (length start) i) true
      (eq-eqb (own_bucket rules count i) (bucket_of count (take (length start) text))
      (ap (bucket_of count) (ap literal_start_of (sym e) ∙ sym front)))
      (eq-eqb (length (literal_start_of (pattern_at (patterns_of rules) i))) (length start)
      (ap (λ t. length (literal_start_of t)) (sym e))))

  pub fits_seen : (rules : List CompiledSpec) (count i : ℕ) → i < length rules
      → fits_at asked text rules i
      ≡ true → is_seen rules count text (fits_at asked text rules) (suc (length text)) i ≡ true
  fits_seen rules count i l t = at rules i l t
    where
      at : (rs : List CompiledSpec) (i : ℕ) → i < length rs → fits_at asked text rs i ≡ true
          → is_seen rs count text (fits_at asked text rs) (suc (length text)) i ≡ true
      at [] i l t = absurd (omega (arith, l))
      at (r ∷ rs) i l t =
          start_seen (r ∷ rs) count i (spec_in (get_or (r ∷ rs) i r))
          (pattern_of_rule (r ∷ rs) i r l)
          (sym (ap (does_fit asked text) (at_place (r ∷ rs) i r l)) ∙ t)

  none_at : (rules : List CompiledSpec) (d : CompiledSpec) (j : ℕ) → j < length rules
      → fits_at asked text rules j
      ≡ false → fits asked text (spec_in (get_or rules j d)) ≡ false
  none_at rules d j l e = sym (ap (does_fit asked text) (at_place rules j d l)) ∙ e

  answered : (rules : List CompiledSpec) (d : CompiledSpec) (found : Option ℕ)
      → IsGreatest (length rules) (fits_at asked text rules) found
      → IsAnswer asked text (map spec_in rules) found
  answered rules d None g =
      none_answer asked text rules
      (none_back asked text rules 0 (length rules) d (omega arith)
      (λ j a b c. none_at rules d j c (g j c))
      (past asked text rules (length rules) (omega arith)))
  answered rules d (Some i) g =
      let l : i < length rules = g.0 in
      found_answer asked text rules i d l (sym (ap (does_fit asked text) (at_place rules i d l))
      ∙ g.1)
      (none_back asked text rules (suc i) (length rules) d (omega (arith, l))
      (λ j a b c. none_at rules d j c (g.2 j (omega (arith, a)) c))
      (past asked text rules (length rules) (omega arith)))

  pub answer_by : (rules : List CompiledSpec) (found : Option ℕ)
      → found ≡ greatest_below (length rules)
      (fits_at asked text rules) → IsAnswer asked text (map spec_in rules) found
  answer_by [] found e = subst (IsAnswer asked text []) (sym e) (none_answer asked text [] refl)
  answer_by (r ∷ rules) found e =
      subst (IsAnswer asked text (map spec_in (r ∷ rules))) (sym e)
      (answered (r ∷ rules) r (greatest_below (length (r ∷ rules)) (fits_at asked text (r ∷ rules)))
      (greatest_shown (length (r ∷ rules)) (fits_at asked text (r ∷ rules))))
