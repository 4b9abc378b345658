-- Rows of a tool's table, by their letters.
use Rattle.std.specs.Prelude.{ℕ, List, map}
use Rattle.tool_words.specs.declared.letters.Form.{Form}
use Rattle.tool_words.specs.declared.letters.Letter.{Letter}
use Rattle.tool_words.specs.declared.letters.Takes.{Takes}
use Rattle.tool_words.specs.declared.letters.Takes.TheVariants.{Flag, Value}

abbrev pub rows_that_take : Takes → List ℕ → List Letter
rows_that_take takes letters = map (λ letter. record { letter = letter; takes = takes }) letters

-- options without a value
abbrev pub flags : List ℕ → List Letter
flags = rows_that_take Flag

-- options with a value of this form
abbrev pub with_value : Form → List ℕ → List Letter
with_value form = rows_that_take (Value form)
