use Rattle.relabel_core.specs.Walked.{walk_of}
use Rattle.label_audit.proofs.ahead.has_changed.Goals as goal

pub look_on-requires-clause-ahead : goal.look_on-requires-clause-ahead
look_on-requires-clause-ahead c = c.from.ensures.ahead (walk_of c.args.input.now) c.requires.ahead
    c.requires.covers
