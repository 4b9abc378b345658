use Rattle.std.proofs.Common.{rules}
use Rattle.dir_queue.proofs.Keeps.{merges, balances}
use Rattle.std.proofs.Common.{sym, subst, ◌∙◌}
use Rattle.crossbeam_queue.specs.Passes.{view}
use Rattle.dir_queue.specs.Passes.{ParentsAreTaken}
use Rattle.dir_queue.proofs.Parents.{joined_under}
use Rattle.dir_queue.proofs.queue.DirQueue.join.Goals as goal

pub absorb-requires-clause-rule : goal.absorb-requires-clause-rule
absorb-requires-clause-rule g c = merges _ _ _ _ (search rules) (search rules)

pub learn_as-requires-clause-rule : goal.learn_as-requires-clause-rule
learn_as-requires-clause-rule g c = balances _ _ (search rules) (search rules)

pub invariant_of-into-clause-under : goal.invariant_of-into-clause-under
invariant_of-into-clause-under g c =
    subst ParentsAreTaken (sym (c.learn_as.ensures.queue.1 ∙ c.absorb.ensures.rule))
    (joined_under (view c.args.into.now.pass) (view c.args.from.pass)
    (c.requires.1.parents ∙ sym c.requires.0.parents) c.args.into.now.under c.args.from.under)
