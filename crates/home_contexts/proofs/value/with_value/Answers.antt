use Rattle.home_contexts.proofs.ValueLemmas.{escaped_capped}
use Rattle.home_contexts.proofs.value.with_value.Goals as goal

pub returns-then-in_pattern : goal.returns-then-in_pattern
returns-then-in_pattern c =
    escaped_capped c.args.so_far c.args.value.now c.args.in_pattern c.capped.result
    c.count_marked.result c.capped-then-in_pattern.result c.if-in_pattern.true
    c.capped.ensures c.count_marked.ensures c.capped-then-in_pattern.ensures
