-- Operations: the nodes of a pattern in postfix order, each with what is known of the part that it
-- ends.
use Rattle.std.specs.Prelude.{◌≡◌, ℕ, ◌<◌, ◌≤◌, Bool, true, List, [], ◌∷◌, ◌++◌, map, None}
use Rattle.pattern_syntax.specs.ByteSet.{has_byte, bytes_with}
use Rattle.pattern_syntax.specs.Reading.{positions}
use Rattle.pattern_syntax.specs.Shape.{tree_size}
use Rattle.pattern_syntax.specs.Tree as tree
use Rattle.pattern_syntax.specs.Tree.{Tree, TreeNode, built, tree_from}
use Rattle.pattern_syntax.specs.declared.node.Node.{Node}
use Rattle.pattern_syntax.specs.declared.node.Node.TheVariants.{Byte, Set, Nothing, Both, Either}
use Rattle.pattern_syntax.specs.declared.node.Node.TheVariants.{Repeat}
use Rattle.pattern_match.specs.Automaton.{automaton}
use Rattle.pattern_match.specs.Passes.{holds_nothing, is_plain}
use Rattle.pattern_match.specs.declared.operation.Operation.{Operation}
use Rattle.pattern_match.specs.declared.operation.TheConstants.{MOST_PLACES}

-- what a node is, and of the part that it ends how many nodes and places it has, and whether it
-- holds the empty text
abbrev pub SeenOperation : Type 0
SeenOperation = TreeNode × (ℕ × (ℕ × Bool))

abbrev pub seen_node : Node → TreeNode
seen_node (Byte b) = (0, (b ∷ [], (0, None)))
seen_node (Set set) = (0, (bytes_with (has_byte set), (0, None)))
seen_node Nothing = (1, ([], (0, None)))
seen_node Both = (2, ([], (0, None)))
seen_node Either = (3, ([], (0, None)))
seen_node (Repeat least most) = (4, ([], (least, most)))

abbrev pub seen_operation : Operation → SeenOperation
seen_operation o = (seen_node o.node, (o.nodes, (o.places, o.holds_nothing)))

abbrev pub last_node : Tree → TreeNode
last_node (tree.Set bytes) = (0, (bytes, (0, None)))
last_node tree.Nothing = (1, ([], (0, None)))
last_node (tree.Both first second) = (2, ([], (0, None)))
last_node (tree.Either left right) = (3, ([], (0, None)))
last_node (tree.Repeat least most piece) = (4, ([], (least, most)))

-- the operation that ends a part
abbrev pub last_seen : Tree → SeenOperation
last_seen t = (last_node t, (tree_size t, (positions t, holds_nothing t)))

abbrev pub tree_operations : Tree → List SeenOperation
tree_operations (tree.Set bytes) = last_seen (tree.Set bytes) ∷ []
tree_operations tree.Nothing = last_seen tree.Nothing ∷ []
tree_operations (tree.Both first second) =
    tree_operations first
    ++ (tree_operations second ++ last_seen (tree.Both first second) ∷ [])
tree_operations (tree.Either left right) =
    tree_operations left ++ (tree_operations right ++ last_seen (tree.Either left right) ∷ [])
tree_operations (tree.Repeat least most piece) =
    tree_operations piece ++ last_seen (tree.Repeat least most piece) ∷ []

-- the tree that operations are of
abbrev pub operations_tree : List Operation → Tree
operations_tree operations = tree_from (built (map (λ o. seen_node o.node) operations) [])

-- the operations are those of the tree
abbrev pub SpellTree : List Operation → Tree → Type 0
SpellTree operations t = map seen_operation operations ≡ tree_operations t

-- the operations are those of a plain tree of some places, which aren't too many, and its automaton
-- is that of the tree
pub record AreOperationsOf (operations : List Operation) (t : Tree) : Type 0 where
  pub spell : SpellTree operations (operations_tree operations)
  pub same : automaton (operations_tree operations) ≡ automaton t
  pub plain : is_plain (operations_tree operations) ≡ true
  pub some : 0 < positions (operations_tree operations)
  pub few : positions (operations_tree operations) ≤ MOST_PLACES
