use Rattle.std.proofs.Common.{◌≡◌, ◌+◌, ◌++◌, drop}
use Rattle.tool_words.specs.Items.{items_from, items_of}
use Rattle.tool_words.specs.Words.{word_texts}
use Rattle.tool_words.proofs.cutting.items_of.Given as goal

-- what was said so far, and what the words that are left say
abbrev pub invariant-words : goal.invariant-words
invariant-words l = record {
  items : l.items ++ items_from l.tool l.ahead l.index (word_texts (drop l.word-index l.words))
      ≡ items_of l.tool l.first (word_texts l.words);
  index : l.index ≡ l.first + l.word-index;
}
