use Rattle.std.proofs.Common.{◌≡◌, drop}
use Rattle.std.specs.List.{last_or}
use Rattle.std.specs.Option.{option_copied}
use Rattle.tool_words.specs.Words.{value_of, values_of}
use Rattle.tool_words.proofs.said.value_of.Given as goal

-- the last value of those that are left, or the one that was found
abbrev pub invariant-items : goal.invariant-items
invariant-items l =
    last_or (option_copied l.found) (values_of l.letter (drop l.item-index l.items))
    ≡ value_of l.letter l.items
