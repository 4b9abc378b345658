use Rattle.std.proofs.Common.{◌≡◌, ◌++◌, drop}
use Rattle.tool_words.specs.Words.{given_paths}
use Rattle.tool_words.proofs.lists.paths_given.Given as goal

-- the paths so far, and those that are left
abbrev pub invariant-items : goal.invariant-items
invariant-items l =
    l.paths ++ given_paths l.letter (drop l.item-index l.items) ≡ given_paths l.letter l.items
