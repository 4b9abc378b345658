use Rattle.run_input.proofs.records.read_entries.Goals as goal

pub returns-in-None-clause-counts : goal.returns-in-None-clause-counts
returns-in-None-clause-counts g c = c.no_entries.ensures.counts (g.I.Source.faults c.args.input.now)
