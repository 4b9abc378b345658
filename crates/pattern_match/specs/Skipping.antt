-- Parts of a pattern that stand under a repeat of zero times, and are nothing.
use Rattle.std.specs.Prelude.{◌≡◌, ℕ, ◌+◌, ◌<◌, ◌≤◌, ◌==◌, ◌&&◌, Bool, false, List, [], ◌∷◌, length}
use Rattle.std.specs.Prelude.{reverse, take, Some, None, slice_index}
use Rattle.pattern_syntax.specs.Tree as tree
use Rattle.pattern_syntax.specs.Tree.{Tree}
use Rattle.pattern_syntax.specs.Nodes.{after_nodes}
use Rattle.pattern_syntax.specs.declared.node.Node.{Node}
use Rattle.pattern_syntax.specs.declared.node.Node.TheVariants.{Byte, Set, Nothing, Both, Either}
use Rattle.pattern_syntax.specs.declared.node.Node.TheVariants.{Repeat}

abbrev pub is_zero_repeat : Node → Bool
is_zero_repeat (Byte b) = false
is_zero_repeat (Set set) = false
is_zero_repeat Nothing = false
is_zero_repeat Both = false
is_zero_repeat Either = false
is_zero_repeat (Repeat least None) = false
is_zero_repeat (Repeat least (Some most)) = (least == 0) && (most == 0)

-- the trees of so many nodes
abbrev pub trees_before : List Node → ℕ → List Tree
trees_before nodes k = after_nodes (take k nodes) []

-- the nodes from a place on, as far as the one of this index, are a part that is repeated zero
-- times
pub record IsSkip (nodes : List Node) (start end : ℕ) : Type 0 where
  pub order : start ≤ end
  pub within : end < length nodes
  pub part : Tree
  pub builds : trees_before nodes (end + 1) ≡ tree.Repeat 0 (Some 0) part ∷ trees_before nodes start

-- for each node, the last node of the greatest such part that begins there; another number where
-- there is none
abbrev pub AreSkips : List Node → List ℕ → Type 0
AreSkips nodes skips =
    (start : ℕ) → start < slice_index skips start → IsSkip nodes start (slice_index skips start)

-- the nodes from each of these places on are one tree, up to the place of the next
abbrev pub AreNodeStarts : List Node → List ℕ → ℕ → Type 0
AreNodeStarts nodes [] k = Unit {0}
AreNodeStarts nodes (start ∷ starts) k =
    (start < k) × ((part : Tree) × (trees_before nodes k ≡ part ∷ trees_before nodes start))
    × AreNodeStarts nodes starts start

-- what is known before a node
pub record IsSkipNoted (nodes : List Node) (starts skips : List ℕ) (k : ℕ) : Type 0 where
  pub starts_are : AreNodeStarts nodes (reverse starts) k
  pub skips_are : AreSkips nodes skips
  pub room : length skips ≡ length nodes
