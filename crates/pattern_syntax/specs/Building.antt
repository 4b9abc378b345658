-- What a builder of a pattern stands for.
use Rattle.std.specs.Prelude.{◌≡◌, ℕ, ◌+◌, ◌*◌, ◌<◌, ◌≤◌, min, true, List, [], ◌∷◌, ◌++◌, length}
use Rattle.std.specs.Prelude.{drop, fold, Option, Some, None, option_map, is_some, Result, Ok, Err}
use Rattle.std.specs.Global.{Vec}
use Rattle.label_base.specs.Answers.{Explains}
use Rattle.pattern_syntax.specs.Tree.{Tree, Set}
use Rattle.pattern_syntax.specs.Shape.{is_proper, is_proper_set, is_sequence, stack_size}
use Rattle.pattern_syntax.specs.Nodes.{after_node}
use Rattle.pattern_syntax.specs.Parts.{AreParts, IsPattern, start_trees, pattern_tree, lead_of}
use Rattle.pattern_syntax.specs.Tokens.{Token, Bytes, Open, Close, Bar, Anchor, Times, tokens_from}
use Rattle.pattern_syntax.specs.Reading as reading
use Rattle.pattern_syntax.specs.Reading.{Reading, positions, after_token, structure_fault, reads_as}
use Rattle.pattern_syntax.specs.PatternCause.{pattern_cause}
use Rattle.pattern_syntax.specs.declared.pattern_fault.PatternWhy.{PatternWhy}
use Rattle.pattern_syntax.specs.declared.pattern_fault.PatternFault.{PatternFault}
use Rattle.pattern_syntax.specs.declared.node.Node.{Node}
use Rattle.pattern_syntax.specs.declared.builder.Level.{Level}
use Rattle.pattern_syntax.specs.declared.builder.Builder.{Builder}
use Rattle.pattern_syntax.specs.declared.limits.TheConstants.{MOST_POSITIONS}

-- positions are counted up to one more than a pattern may have
abbrev pub capped : ℕ → ℕ
capped n = min (MOST_POSITIONS + 1) n

abbrev pub capped_positions : Tree → ℕ
capped_positions tree = capped (positions tree)

abbrev pub level_counts : reading.Level → Level
level_counts level =
    record {
      sides = option_map capped_positions level.sides;
      sequence = capped_positions level.sequence;
      piece = option_map capped_positions level.piece;
    }

-- the trees of a level, the last on top of those before it
abbrev pub tree_on : Option Tree → List Tree → List Tree
tree_on None stack = stack
tree_on (Some tree) stack = tree ∷ stack

abbrev pub level_trees : reading.Level → List Tree → List Tree
level_trees level stack = tree_on level.piece (level.sequence ∷ tree_on level.sides stack)

abbrev pub outer_trees : List reading.Level → List Tree
outer_trees [] = []
outer_trees (around ∷ outer) = level_trees around (outer_trees outer)

-- the outermost first
abbrev pub outer_counts : List reading.Level → List Level
outer_counts [] = []
outer_counts (around ∷ outer) = outer_counts outer ++ level_counts around ∷ []

abbrev pub IsProperIfAny : Option Tree → Type 0
IsProperIfAny None = Unit {0}
IsProperIfAny (Some tree) = is_proper tree ≡ true

pub record IsProperLevel (level : reading.Level) : Type 0 where
  pub sides : IsProperIfAny level.sides
  pub shape : is_sequence level.sequence ≡ true
  pub sequence : is_proper level.sequence ≡ true
  pub piece : IsProperIfAny level.piece

-- no repeat may follow in a level that a group is open in
abbrev pub AreProperLevels : List reading.Level → Type 0
AreProperLevels [] = Unit {0}
AreProperLevels (around ∷ outer) =
    (around.piece ≡ None) × IsProperLevel around × AreProperLevels outer

-- the builder's nodes behind its start are the trees of what is read, and its counts are theirs
pub record IsBuilderOf (builder : Builder) (read : Reading) : Type 0 where
  pub trees : start_trees builder.start builder.nodes.items
      ≡ level_trees read.level (outer_trees read.outer)
  pub level : builder.level ≡ level_counts read.level
  pub outer : builder.outer.items ≡ outer_counts read.outer
  pub level_proper : IsProperLevel read.level
  pub outer_proper : AreProperLevels read.outer
  pub size : 2 * length builder.start + length builder.nodes.items + 1
      ≡ stack_size (level_trees read.level (outer_trees read.outer))
  pub led : lead_of builder.nodes.items ≡ None

-- the nodes end a tree that stands on these, and this is its count
pub record Ends (builder : Builder) (stack : List Tree) (tree : Tree) (count : ℕ) : Type 0 where
  pub trees : start_trees builder.start builder.nodes.items ≡ tree ∷ stack
  pub counted : count ≡ capped_positions tree
  pub size : 2 * length builder.start + length builder.nodes.items + 1
      ≡ stack_size (tree ∷ stack)
  pub led : lead_of builder.nodes.items ≡ None

abbrev pub IsProperToken : Token → Type 0
IsProperToken (Bytes bytes) = is_proper_set bytes ≡ true
IsProperToken Open = Unit {0}
IsProperToken Close = Unit {0}
IsProperToken Bar = Unit {0}
IsProperToken Anchor = Unit {0}
IsProperToken (Times least most) = Unit {0}

abbrev pub ExplainedAs : Option PatternWhy → Option PatternWhy → Type 0
ExplainedAs None fault = Unit {0}
ExplainedAs (Some why) fault = fault ≡ Some why

abbrev pub fault_of : Reading → ℕ → Token → Option PatternWhy
fault_of read place token =
    structure_fault (length read.outer) (is_some read.level.piece) place token

-- the token has no fault, and the builder stands for what is read with it; or the error is its
-- fault, or want of memory
abbrev pub Steps : {U : Type 0} → Result U PatternFault → Builder → Builder → ℕ → Token → Type 0
Steps (Ok u) old new place token =
    (read : Reading) → IsBuilderOf old read → (fault_of read place token ≡ None)
    × IsBuilderOf new (after_token read token)
Steps (Err e) old new place token =
    (read : Reading) → IsBuilderOf old read
    → ExplainedAs (pattern_cause e) (fault_of read place token)

-- the node is that of a set of these bytes
abbrev pub IsSetNode : Node → List ℕ → Type 0
IsSetNode node bytes = (stack : List Tree) → after_node node stack ≡ Set bytes ∷ stack

abbrev pub after_bytes : Reading → List ℕ → Reading
after_bytes read bytes = fold (λ (r : Reading) (b : ℕ). after_token r (Bytes (b ∷ []))) read bytes

-- what the text reads as from a place on is what it reads as from the next place on, behind what is
-- read up to there; or the error is its fault, or want of memory
abbrev pub ReadsOn : Result ℕ PatternFault → Builder → Builder → List ℕ → ℕ → Type 0
ReadsOn (Ok next) old new text place =
    (place < next) × (next ≤ length text) × ((read : Reading) → IsBuilderOf old read
    → (more : Reading) × IsBuilderOf new more × (reads_as (length text) read
    (tokens_from place 0 (drop place text))
    ≡ reads_as (length text) more (tokens_from next 0 (drop next text))))
ReadsOn (Err e) old new text place =
    (read : Reading) → IsBuilderOf old read → Explains (pattern_cause e)
    (reads_as (length text) read (tokens_from place 0 (drop place text)))

-- what is read is whole, and the start and the nodes are those of its tree; or the error is its
-- fault, or want of memory
abbrev pub Finishes : Result (List ℕ × Vec Node) PatternFault → Reading → ℕ → Type 0
Finishes (Ok parts) read end =
    (reads_as end read [] ≡ Ok (pattern_tree parts.0 parts.1.items))
    × AreParts parts.0 parts.1.items
Finishes (Err e) read end = Explains (pattern_cause e) (reads_as end read [])

-- the text is a pattern, and these are the start and the nodes of its tree; or the error is its
-- fault, or want of memory
abbrev pub ReadsParts : Result (List ℕ × Vec Node) PatternFault → Result Tree PatternWhy → Type 0
ReadsParts (Ok parts) meant =
    (meant ≡ Ok (pattern_tree parts.0 parts.1.items)) × IsPattern parts.0 parts.1.items
ReadsParts (Err e) meant = Explains (pattern_cause e) meant

abbrev pub side_positions : Option Tree → ℕ
side_positions None = 0
side_positions (Some sides) = positions sides

-- the positions of a level without its last piece
abbrev pub base_positions : reading.Level → ℕ
base_positions level = side_positions level.sides + positions level.sequence
