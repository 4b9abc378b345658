use Rattle.std.proofs.Common.{◌≡◌, take, true}
use Rattle.std.specs.List.{list_all}
use Rattle.context_syntax.specs.Context.{is_word_byte}
use Rattle.context_syntax.proofs.context.word_length.Given as goal

-- all so far may stand in a word
abbrev pub invariant-bytes : goal.invariant-bytes
invariant-bytes l = record {
  count : l.length ≡ l.byte-index;
  word : list_all is_word_byte (take l.byte-index l.text) ≡ true;
}
