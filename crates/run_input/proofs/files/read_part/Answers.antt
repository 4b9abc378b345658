use Rattle.run_input.proofs.files.read_part.Goals as goal

pub returns-in-Err-NotThere-clause-counts : goal.returns-in-Err-NotThere-clause-counts
returns-in-Err-NotThere-clause-counts g c =
    let same = rw c.in-Err-NotThere.field-0-is at c.in-Err-NotThere.ensures.counts in
    rw same (c.without_file.ensures.counts (g.S.Store.read_faults c.args.store.now))
