-- Texts that go on with any bytes.
use Rattle.std.specs.Prelude.{ℕ, ◌<◌, List, [], ◌∷◌, ◌++◌}
use Rattle.pattern_syntax.specs.Tree.{Tree}
use Rattle.pattern_syntax.specs.Language.{In}

-- bytes that texts have: any but 0
abbrev pub AreTextBytes : List ℕ → Type 0
AreTextBytes [] = Unit {0}
AreTextBytes (b ∷ bs) = (0 < b) × (b < 256) × AreTextBytes bs

-- the language holds the text, and each text that begins with it
abbrev pub TakesAll : Tree → List ℕ → Type 0
TakesAll tree text = (rest : List ℕ) → AreTextBytes rest → In tree (text ++ rest)
