use Rattle.home_contexts.proofs.PieceLemmas.{byte_next, no_pieces, own_fits, word_next}
use Rattle.home_contexts.proofs.PieceLemmas.{word_shorter}
use Rattle.home_contexts.proofs.word.next_piece.Goals as goal

pub returns-in_default-clause-none : goal.returns-in_default-clause-none
returns-in_default-clause-none c = no_pieces c.args.field.now c.in_default.len_below

pub behind_word-requires : goal.behind_word-requires
behind_word-requires c = own_fits c.args.field.now c.word_at.result c.in-Some.word
    c.word_text.result.now c.word_at.ensures c.in-Some.is c.word_text.ensures

pub returns-in-None-clause-found : goal.returns-in-None-clause-found
returns-in-None-clause-found c = byte_next c.args.field.now c.word_at.result c.word_at.ensures
    c.in-None.is c.in-len1-up.len_at_least

pub returns-in-Some-clause-found : goal.returns-in-Some-clause-found
returns-in-Some-clause-found c =
    word_next c.args.field.now c.word_at.result c.in-Some.word c.word_text.result.now
    c.behind_word.result.now c.word_at.ensures c.in-Some.is c.word_text.ensures
    c.in-len1-up.len_at_least c.behind_word.ensures

pub returns-in-Some-clause-shorter : goal.returns-in-Some-clause-shorter
returns-in-Some-clause-shorter c =
    word_shorter c.args.field.now c.word_text.result.now c.behind_word.result.now c.in-Some.word
    c.word_text.ensures c.in-len1-up.len_at_least c.behind_word.ensures
