use Rattle.pattern_match.proofs.Spelled.{one_part}
use Rattle.pattern_match.proofs.spelling.is_one_part.Goals as goal

pub returns-then-last-operations : goal.returns-then-last-operations
returns-then-last-operations c = λ places trees spelled.
    let h = c.in-Some.ensures.item in
    one_part c.args.operations.now _ _ h.1 h.3.0
    c.if-last-operations.true places trees spelled
