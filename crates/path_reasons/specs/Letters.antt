-- The words of explain: its options and operands.
use Rattle.std.specs.Prelude.{None}
use Rattle.tool_words.specs.Tool.{Tool}
use Rattle.tool_words.specs.declared.letters.Others.TheVariants.{Paths}
use Rattle.path_reasons.specs.declared.letters.TheConstants.{LETTERS}

abbrev pub explain : Tool
explain = record { letters = LETTERS.now; first = None; others = Paths }
