use Rattle.run_input.proofs.records.read_tree.Goals as goal

pub returns-in-Ok-clause-counts : goal.returns-in-Ok-clause-counts
returns-in-Ok-clause-counts g c =
    rw c.in-Ok.ensures.counts (c.tree_from.ensures.counts (g.I.Source.faults c.args.input.now))
