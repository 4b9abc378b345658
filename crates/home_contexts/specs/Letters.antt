-- The words of genhomedircon: its options, and no operands.
use Rattle.std.specs.Prelude.{None}
use Rattle.tool_words.specs.Tool.{Tool}
use Rattle.tool_words.specs.declared.letters.Others.TheVariants.{Refused}
use Rattle.tool_words.specs.declared.usage.UsageWhy.TheVariants.{UnknownOption}
use Rattle.home_contexts.specs.declared.letters.TheConstants.{LETTERS}

abbrev pub genhomedircon : Tool
genhomedircon = record { letters = LETTERS.now; first = None; others = Refused UnknownOption }
