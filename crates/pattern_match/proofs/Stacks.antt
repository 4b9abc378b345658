-- Stacks of automata and of trees.
use Rattle.std.proofs.Common.{◌≡◌, refl, sym, ◌∙◌, ap, ℕ, ◌≤◌, List, [], ◌∷◌, ◌++◌, length, take}
use Rattle.std.proofs.Common.{map, true, Option}
use Rattle.std.specs.Prelude.{reverse}
use Rattle.std.proofs.lemmas.List.{reverse-append, take_all, nil_from_length}
use Rattle.pattern_syntax.specs.Tree as tree
use Rattle.pattern_syntax.specs.Tree.{Tree, tree_from}
use Rattle.pattern_syntax.specs.Nodes.{after_node, after_nodes, nodes_tree}
use Rattle.pattern_syntax.specs.declared.node.Node.{Node}
use Rattle.pattern_syntax.specs.declared.node.Node.TheVariants.{Byte, Set, Nothing, Both, Either}
use Rattle.pattern_syntax.specs.declared.node.Node.TheVariants.{Repeat}
use Rattle.pattern_syntax.specs.declared.byte_set.ByteSet.{ByteSet}
use Rattle.pattern_match.specs.declared.class.Class.TheVariants as class
use Rattle.pattern_match.specs.Class.{class_bytes}
use Rattle.pattern_match.specs.Automaton.{Automaton, automaton, both, either_automaton}
use Rattle.pattern_match.specs.Automaton.{repeated_automaton, single_place, bare}
use Rattle.pattern_match.specs.Building.{HoldsTrees, Builds}

-- a stack with one more on top
on_top : (stack : List Automaton) (a : Automaton) → reverse (stack ++ a ∷ []) ≡ a ∷ reverse stack
on_top stack a = reverse-append stack (a ∷ [])

pub pushed : (stack : List Automaton) (trees : List Tree) (a : Automaton) (t : Tree)
    → HoldsTrees stack trees → a ≡ automaton t → HoldsTrees (stack ++ a ∷ []) (t ∷ trees)
pushed stack trees a t h e = on_top stack a ∙ (let f : reverse stack ≡ map automaton trees = h in
    rw (e, f) refl)

pub builds_byte : (old new : List Automaton) (b : ℕ) (a : Automaton)
    → a ≡ single_place (class_bytes (class.Byte b)) → new ≡ old ++ a ∷ [] → Builds (Byte b) old new
unfolding automaton
builds_byte old new b a e n = λ trees h. rw n (pushed old trees a (tree.Set (b ∷ [])) h e)

pub builds_set : (old new : List Automaton) (set : ByteSet) (a : Automaton)
    → a ≡ single_place (class_bytes (class.Set set)) → new ≡ old ++ a ∷ []
    → Builds (Set set) old new
unfolding automaton
builds_set old new set a e n =
    λ trees h. rw n (pushed old trees a (tree.Set (class_bytes (class.Set set))) h e)

pub builds_nothing : (old new : List Automaton) (a : Automaton) → a ≡ bare true
    → new ≡ old ++ a ∷ [] → Builds Nothing old new
unfolding automaton
builds_nothing old new a e n = λ trees h. rw n (pushed old trees a tree.Nothing h e)

top_two : (old s t : List Automaton) (a b : Automaton) → old ≡ t ++ b ∷ [] → t ≡ s ++ a ∷ []
    → reverse old ≡ b ∷ a ∷ reverse s
top_two old s t a b e f = ap reverse e ∙ on_top t b ∙ ap (λ l. b ∷ l) (ap reverse f ∙ on_top s a)

same_both : (a b : Automaton) (x y : Tree) → a ≡ automaton x → b ≡ automaton y
    → both a b ≡ automaton (tree.Both x y)
unfolding automaton
same_both a b x y p q = rw (p, q) refl

pub builds_both : (old s t new : List Automaton) (a b c : Automaton) → old ≡ t ++ b ∷ []
    → t ≡ s ++ a ∷ [] → c ≡ both a b → new ≡ s ++ c ∷ [] → Builds Both old new
builds_both old s t new a b c e f g n =
    λ trees h. rw n (at trees (sym (top_two old s t a b e f) ∙ h))
  where
    at : (trees : List Tree) → (b ∷ a ∷ reverse s) ≡ map automaton trees
        → HoldsTrees (s ++ c ∷ []) (after_node Both trees)
    at [] h = cc
    at (y ∷ []) h = cc
    at (y ∷ x ∷ trees) h =
        pushed s trees c (tree.Both x y) (let r : reverse s ≡ map automaton trees = cc in r)
        (g ∙ same_both a b x y (let p : a ≡ automaton x = cc in p) (let q : b ≡ automaton y = cc in
        q))

same_either : (a b : Automaton) (x y : Tree) → a ≡ automaton x → b ≡ automaton y
    → either_automaton a b ≡ automaton (tree.Either x y)
unfolding automaton
same_either a b x y p q = rw (p, q) refl

pub builds_either : (old s t new : List Automaton) (a b c : Automaton) → old ≡ t ++ b ∷ []
    → t ≡ s ++ a ∷ [] → c ≡ either_automaton a b → new ≡ s ++ c ∷ [] → Builds Either old new
builds_either old s t new a b c e f g n =
    λ trees h. rw n (at trees (sym (top_two old s t a b e f) ∙ h))
  where
    at : (trees : List Tree) → (b ∷ a ∷ reverse s) ≡ map automaton trees
        → HoldsTrees (s ++ c ∷ []) (after_node Either trees)
    at [] h = cc
    at (y ∷ []) h = cc
    at (y ∷ x ∷ trees) h =
        pushed s trees c (tree.Either x y) (let r : reverse s ≡ map automaton trees = cc in r)
        (g ∙ same_either a b x y (let p : a ≡ automaton x = cc in p)
        (let q : b ≡ automaton y = cc in q))

same_repeat : (least : ℕ) (most : Option ℕ) (a : Automaton) (x : Tree) → a ≡ automaton x
    → repeated_automaton least most a ≡ automaton (tree.Repeat least most x)
unfolding automaton
same_repeat least most a x p = rw p refl

pub builds_repeat : (old s new : List Automaton) (least : ℕ) (most : Option ℕ) (a c : Automaton)
    → old ≡ s ++ a ∷ [] → c ≡ repeated_automaton least most a → new ≡ s ++ c ∷ []
    → Builds (Repeat least most) old new
builds_repeat old s new least most a c e g n =
    λ trees h. rw n (at trees (sym (ap reverse e ∙ on_top s a) ∙ h))
  where
    at : (trees : List Tree) → (a ∷ reverse s) ≡ map automaton trees
        → HoldsTrees (s ++ c ∷ []) (after_node (Repeat least most) trees)
    at [] h = cc
    at (x ∷ trees) h =
        pushed s trees c (tree.Repeat least most x) (let r : reverse s ≡ map automaton trees = cc in
        r) (g ∙ same_repeat least most a x (let p : a ≡ automaton x = cc in p))

pub top_tree : (stack s : List Automaton) (trees : List Tree) (a : Automaton) → stack ≡ s ++ a ∷ []
    → HoldsTrees stack trees → a ≡ automaton (tree_from trees)
top_tree stack s [] a e h = let f : a ∷ reverse s ≡ [] = sym (ap reverse e ∙ on_top s a) ∙ h in cc
top_tree stack s (t ∷ ts) a e h = let f : a ∷ reverse s ≡ automaton t ∷ map automaton ts =
    sym (ap reverse e ∙ on_top s a) ∙ h in cc

pub no_tree : (trees : List Tree) → HoldsTrees [] trees → bare true ≡ automaton (tree_from trees)
unfolding automaton
no_tree [] h = refl
no_tree (t ∷ ts) h = cc

-- at the end of the nodes
pub top_at_end : (nodes : List Node) (i : ℕ) (stack s : List Automaton) (a : Automaton)
    → length nodes ≤ i → stack ≡ s ++ a ∷ [] → HoldsTrees stack (after_nodes (take i nodes) [])
    → a ≡ automaton (nodes_tree nodes)
top_at_end nodes i stack s a l e h = let t : take i nodes ≡ nodes = take_all i nodes l in
    top_tree stack s (after_nodes nodes []) a e (rw t at h)

pub none_at_end : (nodes : List Node) (i : ℕ) (stack : List Automaton) (a : Automaton)
    → length nodes ≤ i → length stack ≡ 0 → HoldsTrees stack (after_nodes (take i nodes) [])
    → a ≡ bare true → a ≡ automaton (nodes_tree nodes)
none_at_end nodes i stack a l e h b =
    let t : take i nodes ≡ nodes = take_all i nodes l in
    let n : stack ≡ [] = nil_from_length stack e in
    b ∙ no_tree (after_nodes nodes []) (rw (t, n) at h)
