use Rattle.tree_model.proofs.CountedLemmas.{lacking_behind}
use Rattle.tree_model.proofs.counted.next_lacking.Goals as goal

pub returns-then-has_names : goal.returns-then-has_names
returns-then-has_names c = lacking_behind c.args.sorted.now c.args.e c.args.next c.has_names.result
    c.has_names.ensures c.requires.known c.if-has_names.true c.requires.next
