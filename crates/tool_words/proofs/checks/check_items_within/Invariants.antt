use Rattle.std.proofs.Common.{◌≡◌, drop}
use Rattle.tool_words.specs.Values.{first_wrong}
use Rattle.tool_words.specs.Words.{all_within}
use Rattle.tool_words.proofs.checks.check_items_within.Given as goal

-- nothing was wrong so far
abbrev pub invariant-counted : goal.invariant-counted
invariant-counted l =
    first_wrong (all_within l.letter l.room (drop l.item-index l.items))
    ≡ first_wrong (all_within l.letter l.most l.items)
