-- Lists of rules, some bytes on, and where they may end.
use Rattle.std.proofs.Common.{◌≡◌, ◌∙◌, sym, ap, subst, ℕ, suc, ◌+◌, ◌<◌, ◌≤◌, inl, inr, Bool, List}
use Rattle.std.proofs.Common.{[], ◌∷◌, ◌++◌, Some, length, map, get_or, append-nil, append_assoc}
use Rattle.std.proofs.Common.{add-one, arith}
use Rattle.std.proofs.lemmas.Bool.{cases_lt}
use Rattle.std.specs.List.{All}
use Rattle.pattern_match.specs.Onwards.{AreTextBytes}
use Rattle.pattern_match.specs.Settled.{StatesStay}
use Rattle.pattern_match.specs.States.{AreStatesOf, StandsFor}
use Rattle.pattern_syntax.specs.Language.{In}
use Rattle.pattern_syntax.specs.Tree.{Tree}
use Rattle.spec_match.specs.Alive.{Alive, AreAliveFrom, IsOwn, LeadsBy, alive_at, no_alive}
use Rattle.spec_match.specs.Alive.{pattern_at, wanted_byte}
use Rattle.spec_match.specs.Listed.{Covers, IsListed, Stays}
use Rattle.spec_match.specs.StatesFor.{patterns_of, spec_in}
use Rattle.spec_match.specs.Stepping.{AllStatesStay, GoesOn, IsEnd, IsStaying}
use Rattle.spec_match.specs.declared.compiled_spec.CompiledSpec.{CompiledSpec}
use Rattle.spec_match.proofs.AliveLemmas.{IsStepped, all_stepped, member_at, none_more, stepped_on}
use Rattle.spec_match.proofs.AliveLemmas.{stepped_to}
use Rattle.spec_match.proofs.AnswerLemmas.{count_rules, pattern_of_rule}
use Rattle.spec_match.proofs.LastLemmas.{at_place}
use Rattle.spec_reader.specs.SpecValue.{SpecValue}

-- what covers a text covers it and a byte more
covers_on : (specs : List SpecValue) (text : List ℕ) (b i : ℕ) → 0 < b → b < 256
    → Covers specs text i → Covers specs (text ++ b ∷ []) i
covers_on specs text b i p q c = record {
  spec = c.spec;
  found = c.found;
  any = c.any;
  holds = λ rest r. subst (In c.spec.pattern) (sym (append_assoc text (b ∷ []) rest))
      (c.holds (b ∷ rest) (p, q, r));
}

-- all members were stepped
pub listed_on : (cuts : Bool) (ps : List Tree) (specs : List SpecValue) (b : ℕ)
    (list draft : List Alive) (k : ℕ) → 0 < b → b < 256 → length list ≤ k
    → IsStepped ps (b ∷ []) list draft k → LeadsBy (IsListed cuts ps specs) (b ∷ []) list draft
listed_on cuts ps specs b list draft k p q l s = λ text h. record {
  floor = h.floor;
  is_floor = elim h.is_floor
      [ inl whole ↦ inl whole | inr cut ↦ inr (cut.0, covers_on specs text b h.floor p q cut.1) ];
  alive = all_stepped ps (b ∷ []) list draft k l s text h.floor h.alive;
}

-- so many members of a list stay
abbrev pub AllStay : List Tree → List Alive → ℕ → Type 0
AllStay ps list k = (j : ℕ) → j < k → IsStaying (pattern_at ps (alive_at list j).index)
    (alive_at list j)

pub one_stays : (ps : List Tree) (list : List Alive) (k : ℕ)
    → IsStaying (pattern_at ps (alive_at list k).index) (alive_at list k) → AllStay ps list k
    → AllStay ps list (k + 1)
one_stays ps list k this s = λ j l. elim (cases_lt j k) [
  | inl before ↦ s j before
  | inr after ↦ (let last : k ≡ j = omega (arith, after, l) in
      subst (λ n. IsStaying (pattern_at ps (alive_at list n).index) (alive_at list n)) last this)
]

-- of so many members of a list the states stay
abbrev pub SettledTo : List Tree → List Alive → ℕ → Type 0
SettledTo ps list k = (j : ℕ) → j < k
    → StatesStay (pattern_at ps (alive_at list j).index) (alive_at list j).states

one_settles : (ps : List Tree) (list : List Alive) (k : ℕ)
    → StatesStay (pattern_at ps (alive_at list k).index) (alive_at list k).states
    → SettledTo ps list k → SettledTo ps list (k + 1)
one_settles ps list k this s = λ j l. elim (cases_lt j k) [
  | inl before ↦ s j before
  | inr after ↦ (let last : k ≡ j = omega (arith, after, l) in
      subst (λ n. StatesStay (pattern_at ps (alive_at list n).index) (alive_at list n).states) last
      this)
]

alive_on : (ps : List Tree) (text : List ℕ) (b floor bound : ℕ) (list : List Alive) → 0 < b
    → b < 256 → AllStay ps list (length list) → AreAliveFrom ps text floor bound list
    → AreAliveFrom ps (text ++ b ∷ []) floor bound list
alive_on ps text b floor bound [] p q s h = none_more ps text (b ∷ []) floor bound h
alive_on ps text b floor bound (one ∷ list) p q s h = (
  h.0,
  none_more ps text (b ∷ []) (one.index + 1) bound h.1,
  s 0 (omega arith) b p q text h.2,
  alive_on ps text b floor one.index list p q (λ j l. s (suc j) (omega (arith, l))) h.3,
)

stays_by : (IsFor : List ℕ → List Alive → Type 0) (list : List Alive)
    → ((b : ℕ) → 0 < b → b < 256 → LeadsBy IsFor (b ∷ []) list list) → (rest text : List ℕ)
    → AreTextBytes rest → IsFor text list → IsFor (text ++ rest) list
stays_by IsFor list f [] text r h = subst (λ w. IsFor w list) (sym (append-nil text)) h
stays_by IsFor list f (b ∷ rest) text r h =
    subst (λ w. IsFor w list) (append_assoc text (b ∷ []) rest)
    (stays_by IsFor list f rest (text ++ b ∷ []) r.2 (f b r.0 r.1 text h))

-- where each member stays, the list does
pub listed_stays : (cuts : Bool) (ps : List Tree) (specs : List SpecValue) (list : List Alive)
    → AllStay ps list (length list) → Stays (IsListed cuts ps specs) list
listed_stays cuts ps specs list s = λ text rest r h. stays_by (IsListed cuts ps specs) list
    (λ b p q text h. record {
      floor = h.floor;
      is_floor = elim h.is_floor [
        | inl whole ↦ inl whole
        | inr cut ↦ inr (cut.0, covers_on specs text b h.floor p q cut.1)
      ];
      alive = alive_on ps text b h.floor (length ps) list p q s h.alive;
    }) rest text r h

-- a member of a list, and its rule
module _ (rules : List CompiledSpec) (list : List Alive) (k i : ℕ) (rule : CompiledSpec)
    (within : k < length list)
    (owns : All (IsOwn (patterns_of rules)) list)
    (index : i ≡ (alive_at list k).index) (is : rule ≡ get_or rules i rule) where
  below : (alive_at list k).index < length rules
  below = let own = owns k no_alive within in omega (arith, own.within, count_rules rules)

  pub in_rules : i < length rules
  in_rules = omega (arith, below, index)

  there : rule ≡ get_or rules (alive_at list k).index rule
  there = is ∙ ap (λ n. get_or rules n rule) index

  pattern : rule.spec.pattern ≡ pattern_at (patterns_of rules) (alive_at list k).index
  pattern = ap (λ (r : CompiledSpec). r.spec.pattern) there
      ∙ pattern_of_rule rules (alive_at list k).index
      rule below

  pub rule_kept : AreStatesOf rule.spec.pattern (alive_at list k).states
  rule_kept = subst (λ t. AreStatesOf t (alive_at list k).states) (sym pattern)
      (owns k no_alive within).made

  pub rule_wants : (alive_at list k).wants ≡ wanted_byte rule.spec.pattern (alive_at list k).states
  rule_wants = (owns k no_alive within).wants ∙ ap (λ t. wanted_byte t (alive_at list k).states)
      (sym pattern)

  pub rule_stepped : (tail : List ℕ) (old new : List Alive)
      → GoesOn rule.spec.pattern tail (alive_at list k) old new → IsStepped (patterns_of rules) tail
      list old k → IsStepped (patterns_of rules) tail list new (k + 1)
  rule_stepped tail old new goes s =
      subst (IsStepped (patterns_of rules) tail list new) (sym (add-one k))
      (stepped_on (patterns_of rules) rule.spec.pattern tail list old new k within pattern
      (owns k no_alive within) goes s)

  pub rule_stays : IsStaying rule.spec.pattern (alive_at list k)
      → AllStay (patterns_of rules) list k → AllStay (patterns_of rules) list (k + 1)
  rule_stays this s =
      one_stays (patterns_of rules) list k (subst (λ t. IsStaying t (alive_at list k)) pattern this)
      s

  pub rule_settles : StatesStay rule.spec.pattern (alive_at list k).states
      → SettledTo (patterns_of rules) list k → SettledTo (patterns_of rules) list (k + 1)
  rule_settles this s =
      one_settles (patterns_of rules) list k
      (subst (λ t. StatesStay t (alive_at list k).states) pattern this) s

  pub rule_settled : AllStatesStay (patterns_of rules) list
      → StatesStay rule.spec.pattern (alive_at list k).states
  rule_settled all = subst (λ t. StatesStay t (alive_at list k).states) (sym pattern)
      (all k within)

  -- the list that is written may end with it
  pub listed_to : (cuts : Bool) (tail : List ℕ) (draft : List Alive)
      → IsEnd cuts rule.spec tail (alive_at list k) → IsStepped (patterns_of rules) tail list draft
      (k + 1) → LeadsBy (IsListed cuts (patterns_of rules) (map spec_in rules)) tail list draft
  listed_to cuts tail draft end s = λ text h.
      let one = alive_at list k in
      let ps = patterns_of rules in
      let m = member_at ps text h.floor (length ps) list k within h.alive in record {
        floor = one.index;
        is_floor = inr (
          end.may,
          record {
            spec = spec_in rule;
            found = at_place rules one.index rule below ∙ ap (λ r. Some (spec_in r)) (sym there);
            any = end.any;
            holds = end.holds text
                (subst (λ t. StandsFor t one.states text) (sym pattern) m.stands);
          },
        );
        alive = stepped_to ps tail list draft k within
            (subst (IsStepped ps tail list draft) (add-one k) s) text h.floor h.alive;
      }
