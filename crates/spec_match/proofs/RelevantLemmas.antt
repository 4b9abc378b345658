-- The specifications that can decide at or below a path.
use Rattle.std.proofs.Common.{◌≡◌, ◌∙◌, refl, sym, ap, subst, ℕ, zero, suc, ◌+◌, ◌-◌, ◌<◌, ◌≤◌}
use Rattle.std.proofs.Common.{Bool, true, false, cond, List, [], ◌∷◌, ◌++◌, drop, length, get_or}
use Rattle.std.proofs.Common.{map, filter, append_assoc, append-nil, arith}
use Rattle.std.proofs.lemmas.List.{get_or_default}
use Rattle.std.specs.List.{enumerate_from}
use Rattle.file_paths.specs.Path.{Path, is_root_path, path_text}
use Rattle.pattern_match.proofs.Holding.{holds_shows}
use Rattle.pattern_match.proofs.Quotients.{below_test}
use Rattle.pattern_match.proofs.Reading.{none_below}
use Rattle.pattern_match.specs.States.{StandsFor}
use Rattle.pattern_syntax.specs.Language.{In, Opens, holds}
use Rattle.pattern_syntax.specs.Tree.{Tree}
use Rattle.spec_match.specs.Alive.{Alive, AreAlive, NoneAlive, alive_at, pattern_at}
use Rattle.spec_match.specs.Relevant.{can_decide, relevant_at}
use Rattle.spec_match.specs.StatesFor.{patterns_of, spec_in}
use Rattle.spec_match.specs.declared.compiled_spec.CompiledSpec.{CompiledSpec}
use Rattle.spec_match.proofs.AliveLemmas.{bound_next, member_at, rest_alive}
use Rattle.spec_match.proofs.AnswerLemmas.{count_rules, pattern_of_rule}
use Rattle.spec_reader.specs.SpecValue.{SpecValue}

-- a test that is that of membership tells it
pub accepts_shows : (t : Tree) (text : List ℕ) (v : Bool) → v ≡ holds t text
    → (v ≡ true → In t text) × (In t text → v ≡ true)
accepts_shows t text v e =
    (λ q. (holds_shows t text).0 (sym e ∙ q), λ i. e ∙ (holds_shows t text).1 i)

module _ (path : Path) where
  -- those of the specifications from one on
  abbrev pub relevant_from : ℕ → List SpecValue → List ℕ
  relevant_from n specs =
      map (λ (p : ℕ × SpecValue). p.0) (filter (λ p. can_decide path p.1) (enumerate_from n specs))

  first_of : (v : Bool) (n : ℕ) (spec : SpecValue) (pairs : List (ℕ × SpecValue))
      → map (λ (p : ℕ × SpecValue). p.0) (cond v ((n, spec) ∷ pairs) pairs) ≡ cond v (n ∷ []) []
      ++ map (λ (p : ℕ × SpecValue). p.0) pairs
  first_of true n spec pairs = refl
  first_of false n spec pairs = refl

  drop_here : (rules : List CompiledSpec) (i : ℕ) (d : CompiledSpec) → i < length rules
      → map spec_in (drop i rules)
      ≡ spec_in (get_or rules i d) ∷ map spec_in (drop (suc i) rules)
  drop_here [] i d l = absurd (omega (arith, l))
  drop_here (r ∷ rules) zero d l = refl
  drop_here (r ∷ rules) (suc i) d l = drop_here rules i d (omega (arith, l))

  past : (rules : List CompiledSpec) (i : ℕ) → length rules ≤ i → map spec_in (drop i rules) ≡ []
  past [] zero l = refl
  past [] (suc i) l = refl
  past (r ∷ rules) zero l = absurd (omega (arith, l))
  past (r ∷ rules) (suc i) l = past rules i (omega (arith, l))

  -- the first so many were tried
  pub IsTried : List CompiledSpec → ℕ → List ℕ → Type 0
  IsTried rules i found = found ++ relevant_from i (map spec_in (drop i rules)) ≡ relevant_at path
      (map spec_in rules)

  pub none_tried : (rules : List CompiledSpec) → IsTried rules 0 []
  unfolding IsTried relevant_at
  none_tried rules = refl

  pushed : (v : Bool) (n : ℕ) (found : List ℕ) → cond v (found ++ n ∷ []) found ≡ found
      ++ cond v (n ∷ []) []
  pushed true n found = refl
  pushed false n found = sym (append-nil found)

  pub tried_on : (rules : List CompiledSpec) (i : ℕ) (rule : CompiledSpec) (v : Bool)
      (old new : List ℕ)
      → i < length rules → rule ≡ get_or rules i rule → v ≡ can_decide path rule.spec
      → new ≡ cond v (old ++ i ∷ []) old → IsTried rules i old → IsTried rules (i + 1) new
  unfolding IsTried
  tried_on rules i rule v old new l e t n h =
      let rest = relevant_from (i + 1) (map spec_in (drop (i + 1) rules)) in
      let next : i + 1 ≡ suc i = omega arith in
      let here : map spec_in (drop i rules) ≡ spec_in rule ∷ map spec_in (drop (i + 1) rules) =
      drop_here rules i rule l
      ∙ ap (λ (r : CompiledSpec). spec_in r ∷ map spec_in (drop (suc i) rules))
      (sym e) ∙ ap (λ k. spec_in rule ∷ map spec_in (drop k rules)) (sym next) in
      let first : relevant_from i (map spec_in (drop i rules)) ≡ cond v (i ∷ []) [] ++ rest =
      ap (relevant_from i) here ∙ first_of (can_decide path rule.spec) i (spec_in rule)
      (filter (λ p. can_decide path p.1)
      (enumerate_from (i + 1) (map spec_in (drop (i + 1) rules))))
      ∙ ap (λ b. cond b (i ∷ []) [] ++ rest) (sym t) in
      ap (λ w. w ++ rest) (n ∙ pushed v i old) ∙ append_assoc old (cond v (i ∷ []) []) rest
      ∙ ap (λ w. old ++ w) (sym first) ∙ h

  pub all_tried : (rules : List CompiledSpec) (i : ℕ) (found : List ℕ) → length rules ≤ i
      → IsTried rules i found → found ≡ relevant_at path (map spec_in rules)
  unfolding IsTried
  all_tried rules i found l h = sym (append-nil found) ∙ ap (λ w. found ++ relevant_from i w)
      (sym (past rules i l)) ∙ h

pub no_names : (path : Path) → true ≡ is_root_path path → length path ≡ 0
no_names [] e = refl
no_names (name ∷ names) e = cc

pub some_names : (path : Path) → false ≡ is_root_path path → length path ≡ 0 → ⊥
some_names [] e h = cc
some_names (name ∷ names) e h = omega arith

-- what is dead behind the path's text can't decide
pub dead_decides : (path : Path) (spec : SpecValue) → (Opens spec.pattern (path_text path) → ⊥)
    → can_decide path spec ≡ false
dead_decides path spec h =
    sym (below_test spec.pattern path false (none_below spec.pattern path (path_text path) refl h))

-- behind which index the members before a rest of a list are
abbrev pub low_of : List Alive → ℕ
low_of [] = 0
low_of (one ∷ list) = suc one.index

abbrev pub low_at : List Alive → ℕ → ℕ
low_at list k = low_of (drop k list)

none_above : (ps : List Tree) (text : List ℕ) (bound : ℕ) (rest : List Alive)
    → AreAlive ps text bound rest → NoneAlive ps text (low_of rest) bound
none_above ps text bound [] h = h
none_above ps text bound (one ∷ rest) h = λ i l m o. h.1 i (omega (arith, l)) m o

low_below : (ps : List Tree) (text : List ℕ) (bound : ℕ) (rest : List Alive)
    → AreAlive ps text bound rest → low_of rest ≤ bound
low_below ps text bound [] h = omega arith
low_below ps text bound (one ∷ rest) h = omega (arith, h.0)

low_next : (list : List Alive) (k : ℕ) → k < length list
    → low_at list k ≡ suc (alive_at list k).index
low_next [] k l = absurd (omega (arith, l))
low_next (one ∷ list) zero l = refl
low_next (one ∷ list) (suc k) l = low_next list k (omega (arith, l))

module _ (path : Path) where
  -- none of so many specifications can decide
  skipped : (rules : List CompiledSpec) (gap i : ℕ) (d : CompiledSpec) (found : List ℕ)
      → ((j : ℕ) → i ≤ j → j < i + gap → can_decide path (spec_in (get_or rules j d)) ≡ false)
      → i + gap ≤ length rules → IsTried path rules i found → IsTried path rules (i + gap) found
  skipped rules zero i d found f l h = let e : i + 0 ≡ i = omega arith in rw e h
  skipped rules (suc gap) i d found f l h =
      let e : i + suc gap ≡ (i + 1) + gap = omega arith in
      let rule = get_or rules i d in
      let here : rule ≡ get_or rules i rule =
      sym (get_or_default rules i rule d (omega (arith, l))) in
      rw e (skipped rules gap (i + 1) d found (λ j a b. f j (omega (arith, a)) (omega (arith, b)))
      (omega (arith, l))
      (tried_on path rules i rule false found found (omega (arith, l)) here
      (sym (f i (omega arith) (omega arith))) refl h))

  none_decides : (rules : List CompiledSpec) (from below : ℕ) (d : CompiledSpec) (found : List ℕ)
      → from ≤ below
      → below ≤ length rules → NoneAlive (patterns_of rules) (path_text path) from below
      → IsTried path rules from found → IsTried path rules below found
  none_decides rules from below d found l m none h =
      let e : from + (below - from) ≡ below = omega (arith, l) in
      subst (λ n. IsTried path rules n found) e
      (skipped rules (below - from) from d found
      (λ j a b. dead_decides path (spec_in (get_or rules j d))
      (λ o. none j a (omega (arith, b, l))
      (subst (λ t. Opens t (path_text path))
      (pattern_of_rule rules j d (omega (arith, b, l, m))) o))) (omega (arith, l, m)) h)

  -- the member at a place of a list was tried, and those between it and the member behind it can't
  -- decide
  pub decided_on : (rules : List CompiledSpec) (list : List Alive) (k : ℕ) (rule : CompiledSpec)
      (v : Bool)
      (old new : List ℕ) → k < length list → rule ≡ get_or rules (alive_at list k).index rule
      → (alive_at list k).index < length rules
      → (StandsFor rule.spec.pattern (alive_at list k).states (path_text path)
      → v ≡ can_decide path rule.spec) → new ≡ cond v (old ++ (alive_at list k).index ∷ []) old
      → AreAlive (patterns_of rules) (path_text path) (length (patterns_of rules)) list
      → IsTried path rules (low_at list (suc k)) old → IsTried path rules (low_at list k) new
  decided_on rules list k rule v old new l e w f n h t =
      let ps = patterns_of rules in
      let i = (alive_at list k).index in
      let m = member_at ps (path_text path) 0 (length ps) list k l h in
      let p : rule.spec.pattern ≡ pattern_at ps i = ap (λ (r : CompiledSpec). r.spec.pattern) e
      ∙ pattern_of_rule rules i rule w in
      let rest = subst (λ b. AreAlive ps (path_text path) b (drop (suc k) list))
      (bound_next (length ps) list k l)
      (rest_alive ps (path_text path) 0 (length ps) list (suc k) h) in
      let before = none_decides rules (low_at list (suc k)) i rule old
      (low_below ps (path_text path) i (drop (suc k) list) rest) (omega (arith, w))
      (none_above ps (path_text path) i (drop (suc k) list) rest) t in
      let next : i + 1 ≡ low_at list k = omega arith ∙ sym (low_next list k l) in
      subst (λ b. IsTried path rules b new) next
      (tried_on path rules i rule v old new w e
      (f (subst (λ t. StandsFor t (alive_at list k).states (path_text path)) (sym p) m.stands))
      n before)

  pub all_decided : (rules : List CompiledSpec) (list : List Alive) (found : List ℕ)
      → AreAlive (patterns_of rules) (path_text path) (length (patterns_of rules)) list
      → IsTried path rules (low_at list 0) found → found ≡ relevant_at path (map spec_in rules)
  all_decided rules list found h t = at rules refl h t
    where
      at : (rs : List CompiledSpec) → rules ≡ rs → AreAlive (patterns_of rs) (path_text path)
          (length (patterns_of rs)) list → IsTried path rs (low_at list 0) found
          → found ≡ relevant_at path (map spec_in rules)
      at [] e a b = rw e (all_tried path [] (low_at list 0) found (omega arith) b)
      at (r ∷ rs) e a b =
          let ps = patterns_of (r ∷ rs) in
          let n : length ps ≡ length (r ∷ rs) = count_rules (r ∷ rs) in
          rw e (all_tried path (r ∷ rs) (length ps) found (omega (arith, n))
          (none_decides (r ∷ rs) (low_at list 0) (length ps) r found
          (low_below ps (path_text path) (length ps) list a) (omega (arith, n))
          (none_above ps (path_text path) (length ps) list a) b))

  pub none_decided : (rules : List CompiledSpec) (list : List Alive) (found : List ℕ) (left : ℕ)
      → found ≡ [] → left ≡ length list → IsTried path rules (low_at list left) found
  none_decided rules list found left e l =
      let z : low_at list left ≡ 0 = ap low_of (past_all list left (omega (arith, l))) in
      subst (λ n. IsTried path rules n found) (sym z)
      (subst (IsTried path rules 0) (sym e) (none_tried path rules))
    where
      past_all : (list : List Alive) (n : ℕ) → length list ≤ n → drop n list ≡ []
      past_all [] zero l = refl
      past_all [] (suc n) l = refl
      past_all (x ∷ list) zero l = absurd (omega (arith, l))
      past_all (x ∷ list) (suc n) l = past_all list n (omega (arith, l))
