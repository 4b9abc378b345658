-- Operations that spell trees, and one more behind them.
use Rattle.std.proofs.Common.{◌≡◌, refl, sym, ◌∙◌, ap, subst, ℕ, zero, suc, ◌+◌, ◌-◌, ◌*◌, ◌<◌}
use Rattle.std.proofs.Common.{◌≤◌, Bool, true, List, [], ◌∷◌, ◌++◌, length, map, get_or, Option}
use Rattle.std.proofs.Common.{Some, None, append_assoc, arith, length-append}
use Rattle.std.specs.Prelude.{◌||◌, ◌==◌, max, nat_lt}
use Rattle.std.proofs.lemmas.Bool.{and_from, le-leb, lt-ltb, ltb-true, ne_eqb, or_left}
use Rattle.std.proofs.lemmas.List.{length-map, map-append, nil_from_length}
use Rattle.pattern_syntax.specs.Reading.{factor, positions}
use Rattle.pattern_syntax.specs.Shape.{tree_size}
use Rattle.pattern_syntax.specs.Tree as tree
use Rattle.pattern_syntax.specs.Tree.{Tree, tree_from}
use Rattle.pattern_syntax.specs.declared.node.Node.{Node}
use Rattle.pattern_syntax.specs.declared.node.Node.TheVariants.{Repeat}
use Rattle.pattern_match.specs.Automaton.{automaton}
use Rattle.pattern_match.specs.Layouts.{copies_of}
use Rattle.pattern_match.specs.Operations.{SeenOperation, seen_node, seen_operation, last_seen}
use Rattle.pattern_match.specs.Operations.{tree_operations, operations_tree, AreOperationsOf}
use Rattle.pattern_match.specs.Operations.{SpellTree}
use Rattle.pattern_match.specs.Passes.{holds_nothing, is_plain}
use Rattle.pattern_match.specs.Spelling.{stack_operations, SpellTrees, ArePlainParts, AreSpelled}
use Rattle.pattern_match.specs.Spelling.{EndsPart, SpellsNode, StandForTrees, EndWithTwo}
use Rattle.pattern_match.specs.declared.operation.Operation.{Operation}
use Rattle.pattern_match.specs.declared.operation.TheConstants.{MOST_PLACES}
use Rattle.pattern_match.proofs.OpenParts.{front, ends_with, seen_last, size_counts, spell_own}
use Rattle.pattern_match.proofs.OpenParts.{spelled_tree}

-- ---- the last parts

-- where there is an operation there is a tree
none_spelled : {A : Type 0} (operations : List Operation) → 0 < length operations
    → SpellTrees operations [] → A
none_spelled operations some s =
    let n = length-map operations seen_operation in
    let m : length (map seen_operation operations) ≡ 0 = ap length s in absurd (omega arith)

pub two_ended : (operations before behind : List Operation) (first second d e : Operation)
    → second ≡ get_or operations (length operations - 1) d → 0 < length operations
    → ((t : Tree) (trees : List Tree) → SpellTrees operations (t ∷ trees)
    → SpellTrees before trees × SpellTree behind t)
    → first ≡ get_or before (length before - 1) e → 0 < length before
    → (trees : List Tree) → SpellTrees operations trees → EndWithTwo trees first second
two_ended operations before behind first second d e f some cut g more [] s =
    none_spelled operations some s
two_ended operations before behind first second d e f some cut g more (y ∷ []) s =
    none_spelled before more (cut y [] s).0
two_ended operations before behind first second d e f some cut g more (y ∷ x ∷ trees) s = (
  seen_last before first e x trees g more (cut y (x ∷ trees) s).0,
  seen_last operations second d y (x ∷ trees) f some s,
)

-- ---- one operation more

pub pushed : (operations : List Operation) (made : Operation) (t : Tree) (trees : List Tree)
    → map seen_operation operations ≡ stack_operations trees ++ front t → EndsPart made t
    → ArePlainParts trees → AreSpelled (operations ++ made ∷ []) (t ∷ trees)
pushed operations made t trees e ends fit = record {
  spell = map-append seen_operation operations (made ∷ [])
      ∙ ap (λ l. l ++ seen_operation made ∷ []) e
      ∙ ap (λ o. (stack_operations trees ++ front t) ++ o ∷ []) ends.seen
      ∙ append_assoc (stack_operations trees) (front t) (last_seen t ∷ [])
      ∙ ap (λ l. stack_operations trees ++ l) (sym (ends_with t));
  fit = (ends.fit, fit);
}

copies_are : (least : ℕ) (most : Option ℕ) → copies_of least most ≡ factor least most
copies_are least (Some most) = refl
copies_are zero None = refl
copies_are (suc least) None =
    let n : suc least ≡ max (suc least) 1 = omega arith in
    rw (ne_eqb (suc least) 0 (omega arith)) n

plain_repeat : (least : ℕ) (most : Option ℕ) (piece : Tree) → 0 < copies_of least most
    → least ≤ copies_of least most → is_plain piece ≡ true
    → is_plain (tree.Repeat least most piece) ≡ true
plain_repeat least None piece some enough p = p
plain_repeat least (Some most) piece some enough p =
    and_from _ _ (le-leb _ _ enough) (and_from _ _ (lt-ltb _ _ some) p)

pub starts_zero : (least : ℕ) (nothing result : Bool) → least ≡ 0 → result ≡ (least == 0)
    → result ≡ ((least == 0) || nothing)
starts_zero least nothing result e r =
    let f : (least == 0) ≡ true = rw e refl in r ∙ f ∙ sym (or_left _ nothing f)

pub starts_some : (least : ℕ) (nothing result : Bool) → (least ≡ 0 → ⊥) → result ≡ nothing
    → result ≡ ((least == 0) || nothing)
starts_some least nothing result e r = rw (ne_eqb least 0 e) r

abbrev pub seen_over : Node → SeenOperation → ℕ → Bool → SeenOperation
seen_over node a places nothing = (seen_node node, (a.1.0 + 1, (places, nothing)))

pub repeat_spelled : (operations : List Operation) (piece made d : Operation) (least : ℕ)
    (most : Option ℕ) (copies : ℕ) → piece ≡ get_or operations (length operations - 1) d
    → 0 < length operations → copies ≡ copies_of least most → 0 < copies → least ≤ copies
    → piece.places * copies ≤ MOST_PLACES
    → seen_operation made ≡ seen_over (Repeat least most) (seen_operation piece)
    (piece.places * copies) ((least == 0) || piece.holds_nothing)
    → SpellsNode (Repeat least most) operations made
repeat_spelled operations piece made d least most copies f some g any enough few e [] s =
    none_spelled operations some s.spell
repeat_spelled operations piece made d least most copies f some g any enough few e (x ∷ trees) s =
    let seen = seen_last operations piece d x trees f some s.spell in
    let count : copies ≡ factor least most = g ∙ copies_are least most in
    pushed operations made (tree.Repeat least most x) trees s.spell
    (record {
      seen = e
          ∙ ap (λ (a : SeenOperation). seen_over (Repeat least most) a (a.1.1.0 * copies)
          ((least == 0) || a.1.1.1)) seen
          ∙ ap (λ n. seen_over (Repeat least most) (last_seen x) (positions x * n)
          ((least == 0) || holds_nothing x)) count;
      fit = record {
        plain = plain_repeat least most x (subst (λ n. 0 < n) g any) (subst (λ n. least ≤ n) g
            enough) s.fit.0.plain;
        few = subst (λ n. n ≤ MOST_PLACES)
            (ap (λ (a : SeenOperation). a.1.1.0 * copies) seen ∙ ap (λ n. positions x * n) count)
            few;
      };
    })
    s.fit.1

-- ---- one part alone

same_top : (t : Tree) (below trees : List Tree)
    → map automaton (t ∷ below) ≡ map automaton trees → automaton t ≡ automaton (tree_from trees)
same_top t below [] e = cc
same_top t below (u ∷ trees) e = cc

one_spelled : (operations : List Operation) (last d : Operation)
    → last ≡ get_or operations (length operations - 1) d → 0 < length operations
    → last.nodes ≡ length operations → nat_lt 0 last.places ≡ true
    → (spelled : List Tree) → AreSpelled operations spelled → (trees : List Tree)
    → map automaton spelled ≡ map automaton trees → AreOperationsOf operations (tree_from trees)
one_spelled operations last d f some whole places [] s trees e =
    none_spelled operations some s.spell
one_spelled operations last d f some whole places (t ∷ below) s trees e =
    let seen = seen_last operations last d t below f some s.spell in
    let size : last.nodes ≡ tree_size t = ap (λ s. s.1.0) seen in
    let n = length-map operations seen_operation in
    let m = ap length s.spell in
    let k = length-append (stack_operations below) (tree_operations t) in
    let c = size_counts t in
    let rest : length (stack_operations below) ≡ 0 = omega arith in
    let spell : SpellTree operations t =
    s.spell ∙ ap (λ l. l ++ tree_operations t) (nil_from_length _ rest) in
    let own : t ≡ operations_tree operations = sym (spelled_tree operations t spell) in
    record {
      spell = spell_own operations t spell;
      same = sym (ap automaton own) ∙ same_top t below trees e;
      plain = sym (ap is_plain own) ∙ s.fit.0.plain;
      some = subst (λ n. 0 < n) (ap (λ s. s.1.1.0) seen ∙ ap positions own)
          (ltb-true _ _ places);
      few = subst (λ n. n ≤ MOST_PLACES) (ap positions own) s.fit.0.few;
    }

pub one_part : (operations : List Operation) (last d : Operation)
    → last ≡ get_or operations (length operations - 1) d → 0 < length operations
    → last.nodes ≡ length operations → nat_lt 0 last.places ≡ true
    → (trees : List Tree) → StandForTrees operations trees
    → AreOperationsOf operations (tree_from trees)
one_part operations last d f some whole places trees s =
    one_spelled operations last d f some whole places s.spelled s.are trees s.same
