-- A pattern in two parts: the bytes that it begins with, and the nodes that follow.
use Rattle.std.specs.Prelude.{◌≡◌, ℕ, ◌+◌, ◌*◌, ◌==◌, true, List, [], ◌∷◌, ◌++◌, length, fold}
use Rattle.std.specs.Prelude.{Option, None}
use Rattle.pattern_syntax.specs.Tree.{Tree, Set, Nothing, Both, tree_from}
use Rattle.pattern_syntax.specs.Language.{In}
use Rattle.pattern_syntax.specs.Literal.{literal_start_of, node_code, code_byte, led_byte}
use Rattle.pattern_syntax.specs.Nodes.{after_nodes}
use Rattle.pattern_syntax.specs.Shape.{is_proper, is_choice, tree_size}
use Rattle.pattern_syntax.specs.declared.node.Node.{Node}
use Rattle.pattern_syntax.specs.declared.node.Node.TheVariants.{Byte, Both}

-- the sequence with a byte more
abbrev pub with_byte : Tree → ℕ → Tree
with_byte sequence b = Both sequence (Set (b ∷ []))

-- the sequence of these bytes
abbrev pub bytes_tree : List ℕ → Tree
bytes_tree bytes = fold with_byte Nothing bytes

-- the tree of a start and of the nodes that follow it
abbrev pub pattern_tree : List ℕ → List Node → Tree
pattern_tree start rest = tree_from (after_nodes rest (bytes_tree start ∷ []))

-- the start, and then a text of the rest
abbrev pub Follows : List ℕ → Tree → List ℕ → Type 0
Follows start rest text = (t : List ℕ) × (text ≡ start ++ t) × In rest t

-- the trees of the nodes behind a start, the last on top
abbrev pub start_trees : List ℕ → List Node → List Tree
start_trees start nodes = after_nodes nodes (bytes_tree start ∷ [])

-- the nodes of bytes that are joined to a sequence, one after another
abbrev pub start_nodes : List ℕ → List Node
start_nodes [] = []
start_nodes (b ∷ bs) = Byte b ∷ (Both ∷ start_nodes bs)

-- the byte of the only node
abbrev pub lone_byte : List Node → Option ℕ
lone_byte [] = None
lone_byte (n ∷ []) = code_byte (node_code n)
lone_byte (n ∷ m ∷ ns) = None

-- the byte that nodes begin with, joined to the sequence before them
abbrev pub lead_of : List Node → Option ℕ
lead_of [] = None
lead_of (n ∷ []) = None
lead_of (n ∷ m ∷ ns) = led_byte (code_byte (node_code n)) ((node_code m).0 == 2)

-- behind the start the nodes build one tree, of a pattern's shape, and begin with no byte of it
pub record AreParts (start : List ℕ) (nodes : List Node) : Type 0 where
  pub builds : start_trees start nodes ≡ pattern_tree start nodes ∷ []
  pub proper : is_proper (pattern_tree start nodes) ≡ true
  pub choice : is_choice (pattern_tree start nodes) ≡ true
  pub size : 2 * length start + length nodes + 1 ≡ tree_size (pattern_tree start nodes)
  pub led : lead_of nodes ≡ None

-- the start is all that the tree of both begins with
pub record IsPattern (start : List ℕ) (rest : List Node) : Type 0 where
  pub builds : after_nodes rest (bytes_tree start ∷ []) ≡ pattern_tree start rest ∷ []
  pub proper : is_proper (pattern_tree start rest) ≡ true
  pub choice : is_choice (pattern_tree start rest) ≡ true
  pub literal : literal_start_of (pattern_tree start rest) ≡ start
  pub size : 2 * length start + length rest + 1 ≡ tree_size (pattern_tree start rest)
