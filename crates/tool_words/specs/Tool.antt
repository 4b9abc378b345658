-- What the words of a tool may be: its options, as rows of a table, and its operands.
use Rattle.std.specs.Prelude.{ℕ, ◌==◌, nat_lt, List, [], ◌∷◌, Option, Some, None, if◌then◌else◌}
use Rattle.tool_words.specs.declared.letters.Letter.{Letter}
use Rattle.tool_words.specs.declared.letters.Others.{Others}
use Rattle.tool_words.specs.declared.letters.Takes.{Takes}
use Rattle.tool_words.specs.declared.letters.Valued.{Valued}

pub record Tool : Type 0 where
  -- the options
  pub letters : List Letter
  -- the letter whose value the first operand is, where it is none of the others
  pub first : Option Valued
  pub others : Others

-- what the first row with the letter says
abbrev pub row_takes : List Letter → ℕ → Option Takes
row_takes [] letter = None
row_takes (row ∷ rows) letter =
    if row.letter == letter then Some row.takes else row_takes rows letter

-- letters are bytes of ASCII, the first 128
unfoldable pub takes_of : Tool → ℕ → Option Takes
takes_of tool letter = if nat_lt letter 128 then row_takes tool.letters letter else None
