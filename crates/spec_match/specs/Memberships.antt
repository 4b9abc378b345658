-- How it is tested whether a pattern's language holds a text.
use Rattle.std.specs.Prelude.{◌≡◌, ℕ, List}
use Rattle.std.specs.Coded.{Coded-set, ×_prop, Π_prop}
use mathlib.Core.Bool.{Bool-set}
use Rattle.label_base.specs.Text.{same_bytes}
use Rattle.pattern_syntax.specs.Tree.{Tree, Nothing, tree_code}
use Rattle.pattern_syntax.specs.Language.{holds}
use Rattle.pattern_syntax.specs.Literal.{literal_start_of}
use Rattle.pattern_match.specs.Compiled.{AreTablesOf, are_tables}
use Rattle.pattern_syntax.specs.Starts.{behind_start}
use Rattle.spec_match.specs.declared.membership.Membership.{Membership}
use Rattle.spec_match.specs.declared.membership.Membership.TheVariants.{ByStart, ByMatcher}

-- the pattern's language is one text, its literal start
abbrev pub HasOneText : Tree → Type 0
HasOneText tree =
    (behind_start tree ≡ Nothing)
    × ((text : List ℕ) → holds tree text ≡ same_bytes text (literal_start_of tree))

abbrev pub IsTestOf : Tree → Membership → Type 0
IsTestOf tree ByStart = HasOneText tree
IsTestOf tree (ByMatcher tables) = AreTablesOf tree tables.value

pub is_fact : (tree : Tree) (test : Membership) → IsProp (IsTestOf tree test)
is_fact tree ByStart = ×_prop (Coded-set tree_code _ _) (Π_prop (λ text. Bool-set _ _))
is_fact tree (ByMatcher tables) = are_tables tree tables.value
