use Rattle.std.proofs.Common.{◌≡◌, ◌++◌, drop}
use Rattle.tool_words.specs.Words.{values_of}
use Rattle.tool_words.proofs.lists.names_of.Given as goal

-- the names so far, and those that are left
abbrev pub invariant-items : goal.invariant-items
invariant-items l =
    l.names ++ values_of l.letter (drop l.item-index l.items) ≡ values_of l.letter l.items
