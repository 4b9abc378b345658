-- Patterns as trees. A sequence is Nothing, or Both of a shorter sequence and its last piece; a
-- choice is its only side, or Either of a shorter choice and its last side.
use Rattle.std.specs.Prelude.{◌≡◌, ℕ, zero, suc, List, [], ◌∷◌, ◌++◌, Option, None, refl}
use Rattle.std.specs.Coded.{Coded, code_by, coded×, coded_ℕ, coded_list, coded_option}
use Rattle.std.proofs.Common.{sym, ◌∙◌, ap, append_assoc, append-nil}

pub data Tree : Type 0 where
  Set : (bytes : List ℕ) → Tree
  Nothing : Tree
  Both : (first second : Tree) → Tree
  Either : (left right : Tree) → Tree
  Repeat : (least : ℕ) (most : Option ℕ) (piece : Tree) → Tree

-- a node of a tree in postfix order: what it is, its bytes, its least and greatest number of times
abbrev pub TreeNode : Type 0
TreeNode = ℕ × (List ℕ × (ℕ × Option ℕ))

abbrev pub tree_nodes : Tree → List TreeNode
tree_nodes (Set bytes) = (0, (bytes, (0, None))) ∷ []
tree_nodes Nothing = (1, ([], (0, None))) ∷ []
tree_nodes (Both first second) =
    tree_nodes first ++ (tree_nodes second ++ (2, ([], (0, None))) ∷ [])
tree_nodes (Either left right) = tree_nodes left ++ (tree_nodes right ++ (3, ([], (0, None))) ∷ [])
tree_nodes (Repeat least most piece) = tree_nodes piece ++ (4, ([], (least, most))) ∷ []

abbrev pub node_put : ℕ → List ℕ → ℕ → Option ℕ → List Tree → List Tree
node_put zero bytes least most stack = Set bytes ∷ stack
node_put (suc zero) bytes least most stack = Nothing ∷ stack
node_put (suc (suc zero)) bytes least most (second ∷ first ∷ stack) = Both first second ∷ stack
node_put (suc (suc (suc zero))) bytes least most (right ∷ left ∷ stack) = Either left right ∷ stack
node_put (suc (suc (suc (suc n)))) bytes least most (piece ∷ stack) =
    Repeat least most piece ∷ stack
node_put (suc (suc n)) bytes least most stack = stack

abbrev pub built : List TreeNode → List Tree → List Tree
built [] stack = stack
built (n ∷ ns) stack = built ns (node_put n.0 n.1.0 n.1.1.0 n.1.1.1 stack)

abbrev pub tree_from : List Tree → Tree
tree_from [] = Nothing
tree_from (tree ∷ stack) = tree

pub built-nodes : (t : Tree) (ns : List TreeNode) (stack : List Tree)
    → built (tree_nodes t ++ ns) stack ≡ built ns (t ∷ stack)
built-nodes (Set bytes) ns stack = refl
built-nodes Nothing ns stack = refl
built-nodes (Both first second) ns stack =
    ap (λ l. built l stack)
    (append_assoc (tree_nodes first) (tree_nodes second ++ _ ∷ []) ns ∙
    ap (λ l. tree_nodes first ++ l) (append_assoc (tree_nodes second) (_ ∷ []) ns))
    ∙ built-nodes first _ stack ∙ built-nodes second _ (first ∷ stack)
built-nodes (Either left right) ns stack =
    ap (λ l. built l stack)
    (append_assoc (tree_nodes left) (tree_nodes right ++ _ ∷ []) ns ∙
    ap (λ l. tree_nodes left ++ l) (append_assoc (tree_nodes right) (_ ∷ []) ns))
    ∙ built-nodes left _ stack ∙ built-nodes right _ (left ∷ stack)
built-nodes (Repeat least most piece) ns stack =
    ap (λ l. built l stack) (append_assoc (tree_nodes piece) (_ ∷ []) ns) ∙ built-nodes piece _
    stack

pub tree_again : (t : Tree) → tree_from (built (tree_nodes t) []) ≡ t
tree_again t =
    ap (λ l. tree_from (built l [])) (sym (append-nil (tree_nodes t))) ∙ ap tree_from
    (built-nodes t [] [])

-- a tree is stored as its nodes
abbrev pub tree_code : Coded Tree
tree_code = code_by (List TreeNode)
    (coded_list (coded× coded_ℕ
    (coded× (coded_list coded_ℕ) (coded× coded_ℕ (coded_option coded_ℕ))))) tree_nodes
    (λ ns. tree_from (built ns [])) tree_again
