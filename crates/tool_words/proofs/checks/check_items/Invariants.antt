use Rattle.std.proofs.Common.{◌≡◌, drop}
use Rattle.tool_words.specs.Values.{first_wrong}
use Rattle.tool_words.proofs.checks.check_items.Given as goal

-- nothing was wrong so far
abbrev pub invariant-items : goal.invariant-items
invariant-items l = first_wrong (drop l.item-index l.items) ≡ first_wrong l.items
