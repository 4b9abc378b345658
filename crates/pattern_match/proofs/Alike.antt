-- Operations that stand for trees with the automata of what they spell.
use Rattle.std.proofs.Common.{◌≡◌, refl, sym, ◌∙◌, ap, subst, ℕ, ◌+◌, ◌<◌, true, List, []}
use Rattle.std.proofs.Common.{◌∷◌, ◌++◌, length, map, take, get_or, Some, append-nil, arith}
use Rattle.std.specs.Prelude.{◌==◌}
use Rattle.std.specs.Cmp.{first_so, second_so}
use Rattle.pattern_syntax.specs.ByteSet.{has_byte, bytes_with}
use Rattle.pattern_syntax.specs.Nodes.{after_node}
use Rattle.pattern_syntax.specs.Reading.{positions}
use Rattle.pattern_syntax.specs.Tree as tree
use Rattle.pattern_syntax.specs.Tree.{Tree}
use Rattle.pattern_syntax.specs.declared.node.Node.{Node}
use Rattle.pattern_syntax.specs.declared.node.Node.TheVariants.{Byte, Set, Nothing, Both, Either}
use Rattle.pattern_syntax.specs.declared.node.Node.TheVariants.{Repeat}
use Rattle.pattern_match.specs.Automaton.{automaton}
use Rattle.pattern_match.specs.Operations.{seen_operation, seen_node}
use Rattle.pattern_match.specs.Passes.{holds_nothing}
use Rattle.pattern_match.specs.Skipping.{trees_before, IsSkip}
use Rattle.pattern_match.specs.Spelling.{stack_operations, SpellTrees, AreSpelled, StandForTrees}
use Rattle.pattern_match.specs.Spelling.{StandBehind, IsNodeSpelled, SpellsNode, adds_nothing}
use Rattle.pattern_match.specs.Spelling.{Leaves, EndWithTwo}
use Rattle.pattern_match.specs.declared.operation.Operation.{Operation}
use Rattle.pattern_match.proofs.Language.{is_zero}
use Rattle.pattern_match.proofs.OpenParts.{front_trees}
use Rattle.pattern_match.proofs.Placeless.{both_left, either_left}
use Rattle.pattern_match.proofs.Spelled.{pushed}
use Rattle.pattern_match.proofs.Zeros.{one_before, zero_times}

-- ---- a node behind trees with the same automata

alike : (node : Node) (ss ts : List Tree) → map automaton ss ≡ map automaton ts
    → map automaton (after_node node ss) ≡ map automaton (after_node node ts)
unfolding automaton
alike (Byte b) ss ts e = ap (λ l. automaton (tree.Set (b ∷ [])) ∷ l) e
alike (Set set) ss ts e = ap (λ l. automaton (tree.Set (bytes_with (has_byte set))) ∷ l) e
alike Nothing ss ts e = ap (λ l. automaton tree.Nothing ∷ l) e
alike Both [] [] e = refl
alike Both [] (t ∷ ts) e = cc
alike Both (s ∷ ss) [] e = cc
alike Both (y ∷ []) (v ∷ []) e = e
alike Both (y ∷ []) (v ∷ u ∷ ts) e = cc
alike Both (y ∷ x ∷ ss) (v ∷ []) e = cc
alike Both (y ∷ x ∷ ss) (v ∷ u ∷ ts) e =
    let p : automaton x ≡ automaton u = cc in
    let q : automaton y ≡ automaton v = cc in
    let r : map automaton ss ≡ map automaton ts = cc in rw (p, q, r) refl
alike Either [] [] e = refl
alike Either [] (t ∷ ts) e = cc
alike Either (s ∷ ss) [] e = cc
alike Either (y ∷ []) (v ∷ []) e = e
alike Either (y ∷ []) (v ∷ u ∷ ts) e = cc
alike Either (y ∷ x ∷ ss) (v ∷ []) e = cc
alike Either (y ∷ x ∷ ss) (v ∷ u ∷ ts) e =
    let p : automaton x ≡ automaton u = cc in
    let q : automaton y ≡ automaton v = cc in
    let r : map automaton ss ≡ map automaton ts = cc in rw (p, q, r) refl
alike (Repeat least most) [] [] e = refl
alike (Repeat least most) [] (t ∷ ts) e = cc
alike (Repeat least most) (s ∷ ss) [] e = cc
alike (Repeat least most) (x ∷ ss) (u ∷ ts) e =
    let p : automaton x ≡ automaton u = cc in
    let r : map automaton ss ≡ map automaton ts = cc in rw (p, r) refl

-- one operation more
pub one_more : (node : Node) (old new : List Operation) (made : Operation)
    → new ≡ old ++ made ∷ [] → SpellsNode node old made → StandBehind node old new
one_more node old new made e spells = λ trees s. record {
  spelled = after_node node s.spelled;
  are = subst (λ o. AreSpelled o (after_node node s.spelled)) (sym e) (spells s.spelled s.are);
  same = alike node s.spelled trees s.same;
}

-- the last part is left out
pub one_less : (node : Node) (old new : List Operation) (kept : ℕ) → new ≡ take kept old
    → Leaves node old kept → StandBehind node old new
one_less node old new kept e leaves = λ trees s.
    let l = leaves s.spelled s.are in
    record {
      spelled = l.spelled;
      are = subst (λ o. AreSpelled o l.spelled) (sym e) l.are;
      same = l.same ∙ alike node s.spelled trees s.same;
    }

-- ---- parts without places

kept_first : (operations : List Operation) (kept : ℕ) (x y t : Tree) (trees : List Tree)
    → kept ≡ length (stack_operations (x ∷ trees)) → AreSpelled operations (y ∷ x ∷ trees)
    → automaton x ≡ automaton t → StandForTrees (take kept operations) (t ∷ trees)
kept_first operations kept x y t trees k s e = record {
  spelled = x ∷ trees;
  are = record {
    spell = front_trees operations (take kept operations) y (x ∷ trees) kept k refl s.spell;
    fit = s.fit.1;
  };
  same = ap (λ a. a ∷ map automaton trees) e;
}

pub nothing_added : (node : Node) (operations : List Operation) (first second : Operation)
    (kept : ℕ) → ((trees : List Tree) → SpellTrees operations trees
    → EndWithTwo trees first second)
    → ((t : Tree) (trees : List Tree) → SpellTrees operations (t ∷ trees)
    → kept ≡ length (stack_operations trees)) → adds_nothing node first second ≡ true
    → Leaves node operations kept
nothing_added (Byte b) operations first second kept two start h trees s = cc
nothing_added (Set set) operations first second kept two start h trees s = cc
nothing_added Nothing operations first second kept two start h trees s = cc
nothing_added (Repeat least most) operations first second kept two start h trees s = cc
nothing_added Both operations first second kept two start h [] s = absurd (two [] s.spell)
nothing_added Both operations first second kept two start h (y ∷ []) s =
    absurd (two (y ∷ []) s.spell)
nothing_added Both operations first second kept two start h (y ∷ x ∷ trees) s =
    let ends = two (y ∷ x ∷ trees) s.spell in
    let none : positions y ≡ 0 =
    sym (ap (λ s. s.1.1.0) ends.1) ∙ is_zero second.places h in
    kept_first operations kept x y (tree.Both x y) trees (start y (x ∷ trees) s.spell) s
    (both_left x y s.fit.1.0.plain s.fit.0.plain none)
nothing_added Either operations first second kept two start h [] s = absurd (two [] s.spell)
nothing_added Either operations first second kept two start h (y ∷ []) s =
    absurd (two (y ∷ []) s.spell)
nothing_added Either operations first second kept two start h (y ∷ x ∷ trees) s =
    let ends = two (y ∷ x ∷ trees) s.spell in
    let none : positions y ≡ 0 = sym (ap (λ s. s.1.1.0) ends.1)
    ∙ is_zero second.places (first_so (second.places == 0) _ h) in
    let holds : holds_nothing x ≡ true = sym (ap (λ s. s.1.1.1) ends.0)
    ∙ second_so (second.places == 0) _ h in
    kept_first operations kept x y (tree.Either x y) trees (start y (x ∷ trees) s.spell) s
    (either_left x y s.fit.1.0.plain s.fit.0.plain none holds)

-- a part that is repeated zero times is nothing
pub none_more : (old new : List Operation) (made : Operation) → new ≡ old ++ made ∷ []
    → seen_operation made ≡ (seen_node Nothing, (1, (0, true))) → (trees : List Tree) (part : Tree)
    → StandForTrees old trees → StandForTrees new (tree.Repeat 0 (Some 0) part ∷ trees)
unfolding automaton
none_more old new made e seen = λ trees part s. record {
  spelled = tree.Nothing ∷ s.spelled;
  are = subst (λ o. AreSpelled o (tree.Nothing ∷ s.spelled)) (sym e)
      (pushed old made tree.Nothing s.spelled
      (s.are.spell ∙ sym (append-nil (stack_operations s.spelled)))
      (record { seen = seen; fit = record { plain = refl; few = omega arith } }) s.are.fit);
  same = ap (λ a. a ∷ map automaton s.spelled) (zero_times (automaton part))
      ∙ ap (λ l. automaton (tree.Repeat 0 (Some 0) part) ∷ l) s.same;
}

-- ---- the nodes one by one

pub spelled_skip : (nodes : List Node) (old new : List Operation) (start end : ℕ) → start < end
    → IsSkip nodes start end
    → ((trees : List Tree) (part : Tree) → StandForTrees old trees
    → StandForTrees new (tree.Repeat 0 (Some 0) part ∷ trees))
    → StandForTrees old (trees_before nodes start) → IsNodeSpelled nodes new start (end + 1)
spelled_skip nodes old new start end l s p h = record {
  later = omega arith;
  within = let w = s.within in omega arith;
  stand = subst (λ ts. StandForTrees new ts) (sym s.builds) (p (trees_before nodes start) s.part h);
}

pub spelled_node : (nodes : List Node) (old new : List Operation) (at : ℕ) (d : Node)
    → at < length nodes → StandBehind (get_or nodes at d) old new
    → StandForTrees old (trees_before nodes at) → IsNodeSpelled nodes new at (at + 1)
spelled_node nodes old new at d l b h = record {
  later = omega arith;
  within = omega arith;
  stand = subst (λ ts. StandForTrees new ts) (sym (one_before nodes at d l))
      (b (trees_before nodes at) h);
}
