-- Bytes by their spelling.
use Prim.Native.String.{String}
use Rattle.std.specs.Prelude.{ℕ, List, [], ◌∷◌, codes}

abbrev pub first_code : List ℕ → ℕ
first_code [] = 0
first_code (code ∷ others) = code

-- the byte that a text of one byte is
abbrev pub byte : String → ℕ
byte text = first_code (codes text)

-- bytes without a spelling
abbrev pub tab : ℕ
tab = 9

abbrev pub line_feed : ℕ
line_feed = 10

abbrev pub carriage_return : ℕ
carriage_return = 13

abbrev pub delete : ℕ
delete = 127
