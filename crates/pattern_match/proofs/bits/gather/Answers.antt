use Rattle.std.proofs.Common.{◌≡◌, ◌+◌, ◌*◌, ◌==◌, length, get_or, subst, arith}
use Rattle.std.specs.Prelude.{◌&&◌, ◌||◌}
use Rattle.std.specs.Int.{bit_at}
use Rattle.pattern_match.specs.States.{bit}
use Rattle.pattern_match.specs.Tables.{any_bit}
use Rattle.pattern_match.proofs.LowestBits.{words_more, all_words}
use Rattle.pattern_match.proofs.bits.gather.Goals as goal

pub words-preserved : goal.words-preserved
words-preserved c = (
  omega arith,
  λ k l. words_more c.args.marks.now c.words.i
      (λ p. bit c.args.table.now (64 * (p * length c.args.to.now) + k))
      (bit c.add_marked.new.to k) (bit c.words.to k) (c.words.invariant.1 k l)
      (subst (λ n. bit c.add_marked.new.to k
      ≡ (bit c.words.to k || any_bit
      (λ j. (bit_at (get_or c.args.marks.now c.words.i 0) j == 1) && bit c.args.table.now
      (64 * ((64 * c.words.i + j) * n) + k)))) c.words.invariant.0
      (c.add_marked.ensures.bits k (omega arith))),
)

pub returns-clause-bits : goal.returns-clause-bits
returns-clause-bits c =
    λ k l. all_words
    (λ p. bit c.args.marks.now p && bit c.args.table.now
    (64 * (p * length c.args.to.now) + k)) (bit c.words.to k) c.words.i
    (length c.args.to.now) (omega arith) (c.words.invariant.1 k l)
