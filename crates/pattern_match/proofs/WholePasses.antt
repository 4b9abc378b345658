-- Going over the operations of a whole tree.
use Rattle.std.proofs.Common.{◌≡◌, sym, ◌∙◌, ap, subst, ℕ, ◌+◌, ◌*◌, ◌/◌, ◌<◌, ◌≤◌, ◌⊎◌, inl, inr}
use Rattle.std.proofs.Common.{Bool, true, false, List, length, arith}
use Rattle.std.specs.Prelude.{◌||◌, ◌&&◌}
use Rattle.std.proofs.lemmas.Bool.{and_right, cases_lt}
use Rattle.std.proofs.lemmas.Option.{slice_get_past}
use Rattle.pattern_syntax.specs.Reading.{positions}
use Rattle.pattern_syntax.specs.Tree.{Tree}
use Rattle.pattern_match.specs.Automaton.{Place}
use Rattle.pattern_match.specs.Operations.{AreOperationsOf, operations_tree}
use Rattle.pattern_match.specs.Over.{HaveBits, ends_among, enters, follows_marked, operation_places}
use Rattle.pattern_match.specs.Over.{place_admitted}
use Rattle.pattern_match.specs.Passes.{ends_marked, holds_nothing, moves_to}
use Rattle.pattern_match.specs.States.{bit}
use Rattle.pattern_match.specs.declared.entry.EnteredPlaces.{EnteredPlaces}
use Rattle.pattern_match.specs.declared.operation.Operation.{Operation}
use Rattle.pattern_match.proofs.PassAgreement.{ends_agree, passes_agree}
use Rattle.pattern_match.proofs.PassPlaces.{all_count}
use Rattle.pattern_match.proofs.WordBits.{no_word}

-- a number past the places is none that may be entered
none_past : (entry : EnteredPlaces) (places : List Place) (marks : List ℕ) (q : ℕ)
    → length places ≤ q
    → enters entry places marks q ≡ false
none_past entry places marks q l = and_right (follows_marked places marks q) _
    (ap (place_admitted entry) (slice_get_past places q l))

module _ (operations : List Operation) where
  -- a place for each position, and one before the first byte
  pub counted : AreOperationsOf operations (operations_tree operations) → (part : Tree) (n : ℕ)
      → part ≡ operations_tree operations → n ≡ positions part
      → n + 1 ≡ length (operation_places operations)
  counted a part n e p =
      let c = all_count (operations_tree operations) a.plain in
      let q : n ≡ positions (operations_tree operations) = p ∙ ap positions e in
      omega arith

  pub start_within : (words : ℕ) → HaveBits operations words → (part : Tree) (n : ℕ)
      → part ≡ operations_tree operations → n ≡ positions part → 0 + n / 64 < words
  start_within words h part n e p =
      let c = counted h.are part n e p in
      let r : length (operation_places operations) ≤ 64 * words = h.room in
      omega arith

  -- what a pass over cleared words leaves in them
  pub gone_over : (entry : EnteredPlaces) (from first old new : List ℕ) (part : Tree) (n : ℕ)
      (entered : Bool) → HaveBits operations (length from) → part ≡ operations_tree operations
      → n ≡ positions part → entered ≡ bit from (64 * 0 + n) → length first ≡ length from
      → length old ≡ length first → length new ≡ length old
      → ((q : ℕ) → q < 64 * length first → bit old q ≡ false)
      → ((q : ℕ) → q < 64 * length old
      → bit new q ≡ (bit old q || moves_to entry (bit from) q part entered 0)) → (q : ℕ)
      → bit new q ≡ enters entry (operation_places operations) from q
  gone_over entry from first old new part n entered h e p s i j k none made q =
      at (cases_lt q (64 * length new))
    where
      tree : Tree
      tree = operations_tree operations

      same : length new ≡ length from
      same = k ∙ j ∙ i

      start : entered ≡ bit from (positions tree)
      start = let m : 64 * 0 + n ≡ n = omega arith in
          s ∙ ap (bit from) (m ∙ p ∙ ap positions e)

      moved : moves_to entry (bit from) q part entered 0
          ≡ moves_to entry (bit from) q tree (bit from (positions tree)) 0
      moved = ap (λ (t : Tree). moves_to entry (bit from) q t entered 0) e
          ∙ ap (λ (v : Bool). moves_to entry (bit from) q tree v 0) start

      at : (q < 64 * length new) ⊎ (64 * length new ≤ q)
          → bit new q ≡ enters entry (operation_places operations) from q
      at (inl u) =
          made q (subst (λ m. q < 64 * m) k u)
          ∙ ap (λ v. v || moves_to entry (bit from) q part entered 0)
          (none q (subst (λ m. q < 64 * m) (k ∙ j) u))
          ∙ moved
          ∙ passes_agree tree entry from q h.are.plain
      at (inr u) =
          let r : length (operation_places operations) ≤ 64 * length from = h.room in
          let m : 64 * length from ≡ 64 * length new = ap (λ m. 64 * m) (sym same) in
          no_word new q u
          ∙ sym (none_past entry (operation_places operations) from q (omega arith))

  -- a pass tells whether a marked place ends the tree; behind the start a text may end too where
  -- the empty one is held
  pub ended_over : (marks : List ℕ) (part : Tree) (n : ℕ) (ends : Bool)
      → AreOperationsOf operations (operations_tree operations) → part ≡ operations_tree operations
      → n ≡ positions part → ends ≡ ends_marked (bit marks) part 0
      → (ends || (bit marks (64 * 0 + n) && holds_nothing part))
      ≡ ends_among (operation_places operations) marks
  ended_over marks part n ends a e p s =
      let m : 64 * 0 + n ≡ n = omega arith in
      ap (λ v. v || (bit marks (64 * 0 + n) && holds_nothing part)) s
      ∙ ap (λ k. ends_marked (bit marks) part 0 || (bit marks k && holds_nothing part)) (m ∙ p)
      ∙ ap (λ (t : Tree). ends_marked (bit marks) t 0
      || (bit marks (positions t) && holds_nothing t)) e
      ∙ ends_agree (operations_tree operations) marks a.plain

-- the ways through `ends || (first && last)`
pub at_first : (ends first last all : Bool) → (ends || (first && last)) ≡ all → ends ≡ true
    → ends ≡ all
at_first true first last all e h = e
at_first false first last all e h = cc

pub at_last : (ends first last all : Bool) → (ends || (first && last)) ≡ all → ends ≡ false
    → first ≡ true → last ≡ all
at_last true first last all e h i = cc
at_last false true last all e h i = e
at_last false false last all e h i = cc

pub at_none : (ends first last all : Bool) → (ends || (first && last)) ≡ all → ends ≡ false
    → first ≡ false → first ≡ all
at_none true first last all e h i = cc
at_none false true last all e h i = cc
at_none false false last all e h i = e
