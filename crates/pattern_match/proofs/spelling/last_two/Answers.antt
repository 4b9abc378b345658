use Rattle.pattern_match.proofs.Spelled.{two_ended}
use Rattle.pattern_match.proofs.spelling.last_two.Goals as goal

pub returns : goal.returns
returns c =
    let h = c.in_ok-second.ensures.item in
    let k = c.in_ok-first.ensures.item in
    two_ended c.args.operations.now c.split_last_part.result.0.now c.split_last_part.result.1.now
    _ _ _ _ h.1 h.3.0 c.split_last_part.ensures k.1 k.3.0
