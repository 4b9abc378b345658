-- A stack of automata while a pattern's nodes are read.
use Rattle.std.specs.Prelude.{◌≡◌, ℕ, ◌<◌, ◌≤◌, List, length, map, reverse}
use Rattle.pattern_syntax.specs.Tree.{Tree}
use Rattle.pattern_syntax.specs.Nodes.{after_node}
use Rattle.pattern_syntax.specs.declared.node.Node.{Node}
use Rattle.pattern_match.specs.Automaton.{Automaton, automaton}
use Rattle.pattern_match.specs.Skipping.{trees_before}

-- the stack, its top at the end, holds the automata of these trees, their top first
abbrev pub HoldsTrees : List Automaton → List Tree → Type 0
HoldsTrees stack trees = reverse stack ≡ map automaton trees

-- a node makes a stack of trees' automata into that of the trees after the node
abbrev pub Builds : Node → List Automaton → List Automaton → Type 0
Builds node old new =
    (trees : List Tree) → HoldsTrees old trees → HoldsTrees new (after_node node trees)

-- the stack holds the trees of the nodes before a later place
pub record IsNodePut (nodes : List Node) (stack : List Automaton) (at next : ℕ) : Type 0 where
  pub later : at < next
  pub within : next ≤ length nodes
  pub holds : HoldsTrees stack (trees_before nodes next)
