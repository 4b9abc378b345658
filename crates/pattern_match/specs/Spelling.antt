-- Operations that spell several trees, one behind the other.
use Rattle.std.specs.Prelude.{◌≡◌, ℕ, ◌+◌, ◌<◌, ◌≤◌, ◌==◌, ◌&&◌, Bool, true, false, List, [], ◌∷◌}
use Rattle.std.specs.Prelude.{◌++◌, length, map, take}
use Rattle.pattern_syntax.specs.Nodes.{after_node}
use Rattle.pattern_syntax.specs.Reading.{positions}
use Rattle.pattern_syntax.specs.Tree.{Tree}
use Rattle.pattern_syntax.specs.declared.node.Node.{Node}
use Rattle.pattern_syntax.specs.declared.node.Node.TheVariants.{Byte, Set, Nothing, Both, Either}
use Rattle.pattern_syntax.specs.declared.node.Node.TheVariants.{Repeat}
use Rattle.pattern_match.specs.Automaton.{automaton}
use Rattle.pattern_match.specs.Operations.{SeenOperation, seen_node, seen_operation, last_seen}
use Rattle.pattern_match.specs.Operations.{tree_operations}
use Rattle.pattern_match.specs.Passes.{is_plain}
use Rattle.pattern_match.specs.Skipping.{trees_before}
use Rattle.pattern_match.specs.declared.operation.Operation.{Operation}
use Rattle.pattern_match.specs.declared.operation.TheConstants.{MOST_PLACES}

-- those of trees, the last of which is the first in the list
abbrev pub stack_operations : List Tree → List SeenOperation
stack_operations [] = []
stack_operations (t ∷ ts) = stack_operations ts ++ tree_operations t

abbrev pub SpellTrees : List Operation → List Tree → Type 0
SpellTrees operations trees = map seen_operation operations ≡ stack_operations trees

-- a plain tree whose places aren't too many
pub record IsPlainPart (t : Tree) : Type 0 where
  pub plain : is_plain t ≡ true
  pub few : positions t ≤ MOST_PLACES

abbrev pub ArePlainParts : List Tree → Type 0
ArePlainParts [] = Unit {0}
ArePlainParts (t ∷ ts) = IsPlainPart t × ArePlainParts ts

pub record AreSpelled (operations : List Operation) (trees : List Tree) : Type 0 where
  pub spell : SpellTrees operations trees
  pub fit : ArePlainParts trees

-- the operations spell trees that have the automata of these
pub record StandForTrees (operations : List Operation) (trees : List Tree) : Type 0 where
  pub spelled : List Tree
  pub are : AreSpelled operations spelled
  pub same : map automaton spelled ≡ map automaton trees

-- operations become those behind the node
abbrev pub StandBehind : Node → List Operation → List Operation → Type 0
StandBehind node old new =
    (trees : List Tree) → StandForTrees old trees → StandForTrees new (after_node node trees)

-- those of the nodes before a later place are spelled
pub record IsNodeSpelled (nodes : List Node) (operations : List Operation) (at next : ℕ)
    : Type 0 where
  pub later : at < next
  pub within : next ≤ length nodes
  pub stand : StandForTrees operations (trees_before nodes next)

-- the operation ends the part, which is fit
pub record EndsPart (made : Operation) (t : Tree) : Type 0 where
  pub seen : seen_operation made ≡ last_seen t
  pub fit : IsPlainPart t

-- the operation stands for the node behind these operations
abbrev pub SpellsNode : Node → List Operation → Operation → Type 0
SpellsNode node operations made =
    (trees : List Tree) → AreSpelled operations trees
    → AreSpelled (operations ++ made ∷ []) (after_node node trees)

-- the node leaves the first of the parts that end with these as it is, since the second has no
-- place
abbrev pub adds_nothing : Node → Operation → Operation → Bool
adds_nothing (Byte b) first second = false
adds_nothing (Set set) first second = false
adds_nothing Nothing first second = false
adds_nothing Both first second = second.places == 0
adds_nothing Either first second = (second.places == 0) && first.holds_nothing
adds_nothing (Repeat least most) first second = false

-- so many of the operations stand for what is behind the node
abbrev pub Leaves : Node → List Operation → ℕ → Type 0
Leaves node operations kept =
    (trees : List Tree) → AreSpelled operations trees
    → StandForTrees (take kept operations) (after_node node trees)

-- what an operation is behind the two parts that end with these
abbrev pub seen_behind : Node → Operation → Operation → Bool → SeenOperation
seen_behind node first second nothing =
    (seen_node node, (first.nodes + second.nodes + 1, (first.places + second.places, nothing)))

-- the last two parts end with these operations
abbrev pub EndWithTwo : List Tree → Operation → Operation → Type 0
EndWithTwo (two ∷ one ∷ trees) first second =
    (seen_operation first ≡ last_seen one) × (seen_operation second ≡ last_seen two)
EndWithTwo (two ∷ []) first second = ⊥
EndWithTwo [] first second = ⊥
