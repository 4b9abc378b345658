-- Texts that are read without a builder.
use Rattle.std.specs.Prelude.{◌≡◌, ℕ, ◌+◌, ◌≤◌, true, List, [], ◌∷◌, ◌++◌, length, Some, None}
use Rattle.std.specs.List.{list_all}
use Rattle.pattern_syntax.specs.Exact.{is_itself}
use Rattle.pattern_syntax.specs.Shape.{are_text_bytes}
use Rattle.pattern_syntax.specs.ByteSet.{bytes_with}
use Rattle.pattern_syntax.specs.Classes.{is_text_byte}
use Rattle.pattern_syntax.specs.Tree.{Tree, Set, Nothing, Both, Repeat}
use Rattle.label_base.specs.Spelling.{byte}
use Rattle.pattern_syntax.specs.Nodes.{after_nodes}
use Rattle.pattern_syntax.specs.declared.node.Node.{Node}
use Rattle.pattern_syntax.specs.declared.quick.TheConstants.{BELOW, POSITIONS_BELOW}
use Rattle.pattern_syntax.specs.declared.limits.TheConstants.{MOST_POSITIONS}

-- each byte stands for itself, and they are no more than a pattern may have positions
pub record IsPlain (text : List ℕ) : Type 0 where
  pub itself : list_all is_itself text ≡ true
  pub proper : are_text_bytes text ≡ true
  pub few : length text ≤ MOST_POSITIONS

-- behind such a front stands (/.*)?
pub record IsBelow (text front : List ℕ) : Type 0 where
  pub plain : IsPlain front
  pub text_is : text ≡ front ++ BELOW.now
  pub few : length front + POSITIONS_BELOW ≤ MOST_POSITIONS

-- what (/.*)? stands for
abbrev pub below_tree : Tree
below_tree =
    Repeat 0 (Some 1)
    (Both (Both Nothing (Set (byte "/" ∷ []))) (Repeat 0 None (Set (bytes_with is_text_byte))))

-- the nodes join that to a sequence
pub record AreNodesBelow (nodes : List Node) : Type 0 where
  pub build : (t : Tree) → after_nodes nodes (t ∷ []) ≡ Both t below_tree ∷ []
  pub size : length nodes ≡ 8
