-- The words of matchpathcon(8): its options and operands.
use Rattle.std.specs.Prelude.{None}
use Rattle.tool_words.specs.Tool.{Tool}
use Rattle.tool_words.specs.declared.letters.Others.TheVariants.{Paths}
use Rattle.path_lookups.specs.declared.letters.TheConstants.{LETTERS}

abbrev pub matchpathcon : Tool
matchpathcon = record { letters = LETTERS.now; first = None; others = Paths }
