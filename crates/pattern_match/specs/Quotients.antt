-- What is left of a language behind the first bytes of its texts: left quotients (Brzozowski,
-- "Derivatives of Regular Expressions", 1964).
use Rattle.std.specs.Prelude.{ℕ, zero, suc, pred, Bool, true, false, ◌||◌, ◌&&◌, ◌==◌, List, []}
use Rattle.std.specs.Prelude.{◌∷◌, ◌++◌, Some, None, if◌then◌else◌}
use Rattle.std.specs.List.{list_any}
use Rattle.file_paths.specs.Path.{Path, path_text}
use Rattle.file_paths.specs.declared.path.TheConstants.{SLASH}
use Rattle.pattern_syntax.specs.Tree.{Tree, Set, Nothing, Both, Either, Repeat}
use Rattle.pattern_syntax.specs.Language.{holds}
use Rattle.pattern_match.specs.Residuals.{has_texts, is_count}

-- the empty text is in the language
abbrev pub nullable : Tree → Bool
nullable (Set bytes) = false
nullable Nothing = true
nullable (Both first second) = nullable first && nullable second
nullable (Either left right) = nullable left || nullable right
nullable (Repeat least most piece) = is_count least most && ((least == 0) || nullable piece)

-- no text is in its language
abbrev pub nowhere : Tree
nowhere = Set []

-- the language of what may follow behind a byte
abbrev pub derived : ℕ → Tree → Tree
derived byte (Set bytes) = if list_any (λ c. c == byte) bytes then Nothing else nowhere
derived byte Nothing = nowhere
derived byte (Both first second) =
    if nullable first then Either (Both (derived byte first) second) (derived byte second)
    else Both (derived byte first) second
derived byte (Either left right) = Either (derived byte left) (derived byte right)
derived byte (Repeat least None piece) = Both (derived byte piece) (Repeat (pred least) None piece)
derived byte (Repeat least (Some zero) piece) = nowhere
derived byte (Repeat least (Some (suc most)) piece) =
    Both (derived byte piece) (Repeat (pred least) (Some most) piece)

-- some text of the language begins with the text: something is left behind it
abbrev pub opens : Tree → List ℕ → Bool
opens tree [] = has_texts tree
opens tree (byte ∷ text) = opens (derived byte tree) text

-- the language holds the path or something below it
unfoldable pub holds_below : Tree → Path → Bool
holds_below tree [] = opens tree (SLASH ∷ [])
holds_below tree (name ∷ names) =
    holds tree (path_text (name ∷ names)) || opens tree (path_text (name ∷ names) ++ SLASH ∷ [])
