-- A path's text as a pattern of pcrepattern(3) that matches it alone.
use Rattle.std.specs.Prelude.{◌≡◌, ◌↔◌, ℕ, Bool, ◌||◌, ◌==◌, not, List, [], ◌∷◌, Ok, if◌then◌else◌}
use Rattle.std.specs.List.{flat_map}
use Rattle.file_paths.specs.declared.path.TheConstants.{SLASH}
use Rattle.pattern_syntax.specs.Classes.{is_word_class}
use Rattle.pattern_syntax.specs.Language.{In}
use Rattle.pattern_syntax.specs.Reading.{pattern_of}
use Rattle.pattern_syntax.specs.Tree.{Tree}
use Rattle.home_contexts.specs.declared.escape.TheConstants.{BACKSLASH, HYPHEN}

-- ASCII letters and digits, _, - and /
abbrev pub stands_bare : ℕ → Bool
stands_bare b = is_word_class b || (b == HYPHEN) || (b == SLASH)

abbrev pub is_special : ℕ → Bool
is_special b = not (stands_bare b)

-- a backslash before any other byte
abbrev pub pattern_escaped_byte : ℕ → List ℕ
pattern_escaped_byte b = if stands_bare b then b ∷ [] else BACKSLASH ∷ b ∷ []

abbrev pub pattern_escaped : List ℕ → List ℕ
pattern_escaped text = flat_map pattern_escaped_byte text

-- the bytes are a pattern whose language is this text alone
pub record Matches (pattern text : List ℕ) : Type 0 where
  pub tree : Tree
  pub read : pattern_of pattern ≡ Ok tree
  pub alone : (other : List ℕ) → In tree other ↔ (other ≡ text)
