use Rattle.std.proofs.Common.{◌∙◌, ap, ◌+◌, ◌-◌, ◌<◌, length, drop, arith}
use Rattle.std.specs.Prelude.{Some}
use Rattle.std.proofs.lemmas.List.{length-drop, take_all}
use Rattle.context_syntax.proofs.WordLemmas.{behind_colon_is, behind_whole, front_colon}
use Rattle.context_syntax.proofs.WordLemmas.{front_whole, no_word, word_colon, word_whole}
use Rattle.context_syntax.proofs.context.cut_word.Goals as goal

pub returns-then-length-text-clause-front : goal.returns-then-length-text-clause-front
returns-then-length-text-clause-front c =
    front_whole c.word_length-length.result c.args.text.now c.word_length-length.ensures.word
    c.if-length-text.true

pub returns-then-length-text-clause-behind : goal.returns-then-length-text-clause-behind
returns-then-length-text-clause-behind c =
    behind_whole c.word_length-length.result c.args.text.now c.word_length-length.ensures.word
    c.if-length-text.true

pub returns-then-length-text-clause-word : goal.returns-then-length-text-clause-word
returns-then-length-text-clause-word c =
    word_whole c.word_length-length.result c.args.text.now c.word_length-length.ensures.word
    c.if-length-text.true (let some = c.if-length-eq0.false in omega (arith, some))

pub returns-then-text-length-ne-COLON-clause-none :
    goal.returns-then-text-length-ne-COLON-clause-none
returns-then-text-length-ne-COLON-clause-none c =
    let n = c.word_length-length.result in
    let within = c.word_length-length.ensures.within in
    let left = c.if-length-text.false in
    let l : n < length c.args.text.now = omega (arith, within, left) in
    no_word n c.args.text.now c.word_length-length.ensures.word l
    (c.word_length-length.ensures.end l) c.if-text-length-ne-COLON.true

pub returns-clause-front : goal.returns-clause-front
returns-clause-front c =
    let n = c.word_length-length.result in
    let within = c.word_length-length.ensures.within in
    let left = c.if-length-text.false in
    front_colon n c.args.text.now c.word_length-length.ensures.word (omega (arith, within, left))
    c.if-text-length-ne-COLON.false

pub returns-clause-behind : goal.returns-clause-behind
returns-clause-behind c =
    let n = c.word_length-length.result in
    let text = c.args.text.now in
    let within = c.word_length-length.ensures.within in
    let left = c.if-length-text.false in
    ap Some (take_all (length text - (n + 1)) (drop (n + 1) text)
    (omega (arith, length-drop (n + 1) text)))
    ∙ behind_colon_is n text c.word_length-length.ensures.word (omega (arith, within, left))
    c.if-text-length-ne-COLON.false

pub returns-clause-word : goal.returns-clause-word
returns-clause-word c =
    let n = c.word_length-length.result in
    let within = c.word_length-length.ensures.within in
    let left = c.if-length-text.false in
    let some = c.if-length-eq0.false in
    word_colon n c.args.text.now c.word_length-length.ensures.word (omega (arith, some))
    (omega (arith, within, left)) c.if-text-length-ne-COLON.false
