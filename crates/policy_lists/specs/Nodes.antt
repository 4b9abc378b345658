-- Nodes: a line, and states of its pattern.
use Rattle.std.specs.Prelude.{◌≡◌, ℕ, zero, suc, ◌+◌, ◌*◌, ◌/◌, ◌%◌, ◌<◌, ◌≤◌, Bool, true, false}
use Rattle.std.specs.Prelude.{List, [], ◌∷◌, ◌++◌, Option, Some, None, drop, length, map}
use Rattle.std.specs.Prelude.{slice_get, slice_index}
use Rattle.std.specs.List.{slice_index_or}
use Rattle.pattern_match.specs.Onwards.{TakesAll}
use Rattle.pattern_match.specs.States.{AreStatesOf, Progress, StandsFor, progress}
use Rattle.pattern_syntax.specs.Language.{Opens, holds}
use Rattle.pattern_syntax.specs.Tree.{Tree}
use Rattle.policy_lists.specs.Lines.{HaveRoom, pattern_at, spec_of}
use Rattle.policy_lists.specs.Rows.{AreMore, row_at}
use Rattle.policy_lists.specs.declared.line.Line.{Line}
use Rattle.policy_lists.specs.declared.nodes.Nodes.{Nodes}
use Rattle.spec_match.specs.Remembering.{Remembers}
use Rattle.spec_reader.specs.SpecValue.{SpecValue}

-- a node as a row: the line's index, how many bytes of the literal start were read, the marks
abbrev pub line_of : List ℕ → ℕ
line_of node = slice_index node 0

abbrev pub states_of : List ℕ → Progress
states_of node = progress (slice_index node 1) (drop 2 node)

abbrev pub node_of : ℕ → Progress → List ℕ
node_of line states = line ∷ states.seen ∷ states.marks

abbrev pub node_pattern : List Line → List ℕ → Tree
node_pattern lines node = pattern_at lines (line_of node)

pub record IsNode (lines : List Line) (node : List ℕ) : Type 0 where
  pub long : 2 ≤ length node
  pub within : line_of node < length lines
  pub made : AreStatesOf (node_pattern lines node) (states_of node)

-- the node's states stand for the text
abbrev pub StandsAt : List Line → List ℕ → List ℕ → Type 0
StandsAt lines text node = StandsFor (node_pattern lines node) (states_of node) text

-- a byte leads from a node to another one of the same line, or the line is dead behind it
abbrev pub LeadsTo : List Line → ℕ → List ℕ → Option (List ℕ) → Type 0
LeadsTo lines byte from None = (text : List ℕ) → StandsAt lines text from
    → Opens (node_pattern lines from) (text ++ byte ∷ []) → ⊥
LeadsTo lines byte from (Some to) =
    (line_of to ≡ line_of from)
    × ((text : List ℕ) → StandsAt lines text from → StandsAt lines (text ++ byte ∷ []) to)

-- the line of the node fits each text that begins with one for which the node stands, whatever kind
-- is asked for
pub record Covers (lines : List Line) (node : List ℕ) : Type 0 where
  pub spec : SpecValue
  pub found : slice_get (map spec_of lines) (line_of node) ≡ Some spec
  pub any : spec.kind ≡ None
  pub holds : (text : List ℕ) → StandsAt lines text node → TakesAll spec.pattern text

-- whether the line's language holds a text for which the node stands
abbrev pub Accepts : List Line → List ℕ → Bool → Type 0
Accepts lines node flag = (text : List ℕ) → StandsAt lines text node
    → flag ≡ holds (node_pattern lines node) text

-- an entry of the steps that are known: 0 for none, 1 where the line is dead, else two more than
-- the number of the node that is reached
abbrev pub node_coded : List (List ℕ) → ℕ → Option (List ℕ)
node_coded nodes zero = None
node_coded nodes (suc to) = Some (row_at nodes to)

pub record IsNoted (lines : List Line) (nodes : List (List ℕ)) (p v : ℕ) : Type 0 where
  pub from : p / 256 < length nodes
  pub to : v ≤ length nodes
  pub leads : LeadsTo lines (p % 256) (row_at nodes (p / 256)) (node_coded nodes v)

-- what is known of the nodes is right
pub record AreNodesBy (lines : List Line) (nodes : List (List ℕ)) (next : List ℕ)
    (ends takes : List Bool) (width : ℕ) : Type 0 where
  pub room : HaveRoom lines width
  pub each : (n : ℕ) → n < length nodes → IsNode lines (row_at nodes n)
  pub rows : length next ≡ 256 * length nodes
  pub steps : Remembers (IsNoted lines nodes) next
  pub ends_rows : length ends ≡ length nodes
  pub accepts : (n : ℕ) → n < length nodes
      → Accepts lines (row_at nodes n) (slice_index_or ends n false)
  pub takes_rows : length takes ≡ length nodes
  pub covers : (n : ℕ) → n < length nodes → slice_index_or takes n false ≡ true
      → Covers lines (row_at nodes n)

abbrev pub AreNodes : List Line → Nodes → Type 0
AreNodes lines n =
    AreNodesBy lines n.rows n.next.items n.accepts.items n.covers.items n.states.room

-- where a byte leads from a node, told by number
abbrev pub HasReached : List Line → ℕ → List ℕ → List (List ℕ) → Option ℕ → Type 0
HasReached lines byte from nodes None = LeadsTo lines byte from None
HasReached lines byte from nodes (Some to) =
    (to < length nodes) × LeadsTo lines byte from (Some (row_at nodes to))

-- a step was found, and further nodes with it
pub record IsStepped (lines : List Line) (byte from : ℕ) (old : List (List ℕ)) (to : Option ℕ)
    (new : List (List ℕ)) : Type 0 where
  pub more : AreMore old new
  pub reached : HasReached lines byte (row_at old from) new to

-- a node of a line before the first byte of a text was found, and further nodes with it
pub record IsBegun (lines : List Line) (line : ℕ) (old : List (List ℕ)) (node : ℕ)
    (new : List (List ℕ)) : Type 0 where
  pub more : AreMore old new
  pub within : node < length new
  pub line_is : line_of (row_at new node) ≡ line
  pub stands : StandsAt lines [] (row_at new node)

-- what a number from 0 on says where 0 is no step, and the others one less than a node's
abbrev pub decoded : ℕ → Option ℕ
decoded zero = None
decoded (suc to) = Some to
