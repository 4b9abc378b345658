-- What a part of a pattern is made of.
use Rattle.pattern_syntax.specs.Tree as tree
use Rattle.pattern_syntax.specs.Tree.{Tree}
use Rattle.pattern_match.specs.Class.{class_bytes}
use Rattle.pattern_match.specs.declared.part.PartKind.{PartKind}
use Rattle.pattern_match.specs.declared.part.PartKind.TheVariants.{Set, Nothing, Both, Either}
use Rattle.pattern_match.specs.declared.part.PartKind.TheVariants.{Repeat}

abbrev pub shape_tree : PartKind → Tree
shape_tree (Set class) = tree.Set (class_bytes class)
shape_tree Nothing = tree.Nothing
shape_tree (Both first second) = tree.Both first second
shape_tree (Either left right) = tree.Either left right
shape_tree (Repeat least most piece) = tree.Repeat least most piece
