use Rattle.std.proofs.Common.{◌≡◌, ◌++◌, drop}
use Rattle.tool_words.specs.Words.{operand_paths}
use Rattle.tool_words.proofs.lists.operands.Given as goal

-- the paths so far, and those that are left
abbrev pub invariant-items : goal.invariant-items
invariant-items l = l.paths ++ operand_paths (drop l.item-index l.items) ≡ operand_paths l.items
