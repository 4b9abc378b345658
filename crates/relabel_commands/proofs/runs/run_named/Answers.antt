use Rattle.relabel_commands.proofs.runs.run_named.Goals as goal

pub returns-in-Setfiles-clause-status : goal.returns-in-Setfiles-clause-status
returns-in-Setfiles-clause-status g c =
    rw c.in-Setfiles.is (c.run_words.ensures.status _ c.read_setfiles-asked.ensures.meant)

pub returns-in-Setfiles-clause-run : goal.returns-in-Setfiles-clause-run
returns-in-Setfiles-clause-run g c =
    rw c.in-Setfiles.is (c.run_words.ensures.run _ c.read_setfiles-asked.ensures.meant)

pub returns-in-Restorecon-clause-status : goal.returns-in-Restorecon-clause-status
returns-in-Restorecon-clause-status g c =
    rw c.in-Restorecon.is
    (c.run_words-in-Restorecon.ensures.status _ c.read_restorecon-asked.ensures.meant)

pub returns-in-Restorecon-clause-run : goal.returns-in-Restorecon-clause-run
returns-in-Restorecon-clause-run g c =
    rw c.in-Restorecon.is
    (c.run_words-in-Restorecon.ensures.run _ c.read_restorecon-asked.ensures.meant)

pub returns-in-Matchpathcon-clause-status : goal.returns-in-Matchpathcon-clause-status
returns-in-Matchpathcon-clause-status g c =
    rw c.in-Matchpathcon.is
    (c.run_words-in-Matchpathcon.ensures.status _ c.read_lookup-asked.ensures.meant)

pub returns-in-Matchpathcon-clause-run : goal.returns-in-Matchpathcon-clause-run
returns-in-Matchpathcon-clause-run g c =
    rw c.in-Matchpathcon.is
    (c.run_words-in-Matchpathcon.ensures.run _ c.read_lookup-asked.ensures.meant)

pub returns-in-Genhomedircon-clause-status : goal.returns-in-Genhomedircon-clause-status
returns-in-Genhomedircon-clause-status g c =
    rw c.in-Genhomedircon.is
    (c.run_words-in-Genhomedircon.ensures.status _ c.read_homes-asked.ensures)

pub returns-in-Genhomedircon-clause-run : goal.returns-in-Genhomedircon-clause-run
returns-in-Genhomedircon-clause-run g c =
    rw c.in-Genhomedircon.is (c.run_words-in-Genhomedircon.ensures.run _ c.read_homes-asked.ensures)

pub returns-in-Rehearse-clause-status : goal.returns-in-Rehearse-clause-status
returns-in-Rehearse-clause-status g c =
    rw c.in-Rehearse.is
    (c.run_words-in-Rehearse.ensures.status _ c.read_rehearse-asked.ensures.meant)

pub returns-in-Rehearse-clause-run : goal.returns-in-Rehearse-clause-run
returns-in-Rehearse-clause-run g c =
    rw c.in-Rehearse.is (c.run_words-in-Rehearse.ensures.run _ c.read_rehearse-asked.ensures.meant)

pub returns-in-Sample-clause-status : goal.returns-in-Sample-clause-status
returns-in-Sample-clause-status g c =
    rw c.in-Sample.is (c.run_words-in-Sample.ensures.status _ c.read_sample-asked.ensures)

pub returns-in-Sample-clause-run : goal.returns-in-Sample-clause-run
returns-in-Sample-clause-run g c =
    rw c.in-Sample.is (c.run_words-in-Sample.ensures.run _ c.read_sample-asked.ensures)

pub returns-in-Audit-clause-status : goal.returns-in-Audit-clause-status
returns-in-Audit-clause-status g c =
    rw c.in-Audit.is (c.run_words-in-Audit.ensures.status _ c.read_audit-asked.ensures.meant)

pub returns-in-Audit-clause-run : goal.returns-in-Audit-clause-run
returns-in-Audit-clause-run g c =
    rw c.in-Audit.is (c.run_words-in-Audit.ensures.run _ c.read_audit-asked.ensures.meant)
