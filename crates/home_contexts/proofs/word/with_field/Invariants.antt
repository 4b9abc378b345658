use Rattle.std.proofs.Common.{◌≡◌, ◌||◌, length}
use Rattle.home_contexts.specs.Words.{holds_word, is_other, is_root_word}
use Rattle.home_contexts.proofs.word.with_field.Given as goal

abbrev pub invariant-pieces : goal.invariant-pieces
invariant-pieces l =
    ((l.all.root || holds_word is_root_word l.left)
    ≡ (l.fn.held.root || holds_word is_root_word l.field))
    × ((l.all.other || holds_word is_other l.left)
    ≡ (l.fn.held.other || holds_word is_other l.field))

abbrev pub decreases-pieces : goal.decreases-pieces
decreases-pieces l = length l.left
