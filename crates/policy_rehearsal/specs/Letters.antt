-- The words of rehearse: its options, and paths.
use Rattle.std.specs.Prelude.{None}
use Rattle.tool_words.specs.Tool.{Tool}
use Rattle.tool_words.specs.declared.letters.Others.TheVariants.{Paths}
use Rattle.policy_rehearsal.specs.declared.letters.TheConstants.{LETTERS}

abbrev pub rehearse : Tool
rehearse = record { letters = LETTERS.now; first = None; others = Paths }
