use Rattle.std.proofs.Common.{arith}
use Rattle.file_paths.proofs.PathFronts.{word_small, word_fits, next_word, front_more}
use Rattle.file_paths.proofs.path_key.front.Goals as goal

pub overflow_mul-word : goal.overflow_mul-word
overflow_mul-word c =
    let s = word_small c.loop-place.place c.loop-place.word c.loop-place-test.true
    c.loop-place.invariant.1 in
    let f = word_fits c.loop-place.word 0 s (omega arith) in
    omega (arith, f)

pub overflow_add-word : goal.overflow_add-word
overflow_add-word c =
    let s = word_small c.loop-place.place c.loop-place.word c.loop-place-test.true
    c.loop-place.invariant.1 in
    let f = word_fits c.loop-place.word c.digit.result s c.digit.ensures.small in
    omega (arith, f)

pub loop-place-preserved : goal.loop-place-preserved
loop-place-preserved c = (
  front_more c.args.text.now c.loop-place.place c.loop-place.word c.digit.result
      c.loop-place.invariant.0 c.digit.ensures.value,
  next_word c.loop-place.place c.loop-place.word c.digit.result c.loop-place.invariant.1
      c.digit.ensures.small,
)
