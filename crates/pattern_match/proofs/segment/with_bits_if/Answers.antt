use Rattle.std.proofs.Common.{◌∙◌, sym, ap}
use Rattle.std.specs.Prelude.{◌||◌, ◌&&◌}
use Rattle.pattern_match.specs.Segments.{in_word}
use Rattle.pattern_match.proofs.WordBits.{word_either}
use Rattle.pattern_match.proofs.segment.with_bits_if.Goals as goal

pub returns-then-are_wanted : goal.returns-then-are_wanted
returns-then-are_wanted c = λ k. word_either c.args.word c.args.others k
    ∙ ap (λ v. in_word c.args.word k || (v && in_word c.args.others k)) (sym c.if-are_wanted.true)
