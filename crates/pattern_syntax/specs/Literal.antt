-- The bytes that every text of a pattern begins with.
use Rattle.std.specs.Prelude.{ℕ, Bool, true, false, ◌==◌, List, [], ◌∷◌, ◌++◌, Option, Some, None}
use Rattle.std.specs.Prelude.{unwrap_or, if◌then◌else◌}
use Rattle.pattern_syntax.specs.ByteSet.{has_byte, bytes_with, only_of}
use Rattle.pattern_syntax.specs.Tree as tree
use Rattle.pattern_syntax.specs.Tree.{Tree, TreeNode}
use Rattle.pattern_syntax.specs.declared.node.Node.{Node}
use Rattle.pattern_syntax.specs.declared.node.Node.TheVariants.{Byte, Set, Nothing, Both, Either}
use Rattle.pattern_syntax.specs.declared.node.Node.TheVariants.{Repeat}

-- the byte of a set of one
abbrev pub single_byte : Tree → Option ℕ
single_byte (tree.Set bytes) = only_of bytes
single_byte tree.Nothing = None
single_byte (tree.Both first second) = None
single_byte (tree.Either left right) = None
single_byte (tree.Repeat least most piece) = None

abbrev pub start_joined : Option (List ℕ) → Option ℕ → Option (List ℕ)
start_joined None last = None
start_joined (Some bytes) None = None
start_joined (Some bytes) (Some b) = Some (bytes ++ b ∷ [])

-- the bytes of a sequence of single bytes alone
abbrev pub single_bytes : Tree → Option (List ℕ)
single_bytes tree.Nothing = Some []
single_bytes (tree.Both first second) = start_joined (single_bytes first) (single_byte second)
single_bytes (tree.Set bytes) = None
single_bytes (tree.Either left right) = None
single_bytes (tree.Repeat least most piece) = None

-- the bytes of the longest run of single bytes that a sequence begins with; none where there are
-- several sides
abbrev pub literal_start_of : Tree → List ℕ
literal_start_of (tree.Both first second) =
    unwrap_or (start_joined (single_bytes first) (single_byte second)) (literal_start_of first)
literal_start_of tree.Nothing = []
literal_start_of (tree.Set bytes) = []
literal_start_of (tree.Either left right) = []
literal_start_of (tree.Repeat least most piece) = []

-- a node as the tree's own
abbrev pub node_code : Node → TreeNode
node_code (Byte b) = (0, (b ∷ [], (0, None)))
node_code (Set set) = (0, (bytes_with (has_byte set), (0, None)))
node_code Nothing = (1, ([], (0, None)))
node_code Both = (2, ([], (0, None)))
node_code Either = (3, ([], (0, None)))
node_code (Repeat least most) = (4, ([], (least, most)))

abbrev pub code_byte : TreeNode → Option ℕ
code_byte node = if node.0 == 0 then only_of node.1.0 else None

-- the byte of a single byte that the next node joins to the sequence
abbrev pub led_byte : Option ℕ → Bool → Option ℕ
led_byte (Some b) true = Some b
led_byte (Some b) false = None
led_byte None joins = None

abbrev pub is_several : Tree → Bool
is_several (tree.Either left right) = true
is_several (tree.Set bytes) = false
is_several tree.Nothing = false
is_several (tree.Both first second) = false
is_several (tree.Repeat least most piece) = false
