-- The tree that a list of nodes in postfix order stands for.
use Rattle.std.specs.Prelude.{List, [], ◌∷◌}
use Rattle.pattern_syntax.specs.Tree as tree
use Rattle.pattern_syntax.specs.Tree.{Tree, tree_from}
use Rattle.pattern_syntax.specs.ByteSet.{has_byte, bytes_with}
use Rattle.pattern_syntax.specs.declared.node.Node.{Node}
use Rattle.pattern_syntax.specs.declared.node.Node.TheVariants.{Byte, Set, Nothing, Both, Either}
use Rattle.pattern_syntax.specs.declared.node.Node.TheVariants.{Repeat}

-- the stack of trees after a node
abbrev pub after_node : Node → List Tree → List Tree
after_node (Byte b) stack = tree.Set (b ∷ []) ∷ stack
after_node (Set set) stack = tree.Set (bytes_with (has_byte set)) ∷ stack
after_node Nothing stack = tree.Nothing ∷ stack
after_node Both (second ∷ first ∷ stack) = tree.Both first second ∷ stack
after_node Both stack = stack
after_node Either (right ∷ left ∷ stack) = tree.Either left right ∷ stack
after_node Either stack = stack
after_node (Repeat least most) (piece ∷ stack) = tree.Repeat least most piece ∷ stack
after_node (Repeat least most) [] = []

abbrev pub after_nodes : List Node → List Tree → List Tree
after_nodes [] stack = stack
after_nodes (n ∷ ns) stack = after_nodes ns (after_node n stack)

-- the tree of the nodes
abbrev pub nodes_tree : List Node → Tree
nodes_tree nodes = tree_from (after_nodes nodes [])

-- the trees of nodes that stand behind an empty sequence, the last on top
abbrev pub trees_behind : List Node → List Tree
trees_behind nodes = after_nodes nodes (tree.Nothing ∷ [])

-- the tree of nodes that stand behind an empty sequence
abbrev pub rest_tree : List Node → Tree
rest_tree nodes = tree_from (trees_behind nodes)
