use Rattle.std.proofs.Common.{◌∙◌}
use Rattle.relabel_core.specs.Walked.{walk_of}
use Rattle.relabel_core.proofs.CoveredLemmas.{skipped_is}
use Rattle.label_audit.proofs.looking.decide_at.Goals as goal

pub decide-requires-clause-skipped : goal.decide-requires-clause-skipped
decide-requires-clause-skipped c =
    c.does_skip.ensures ∙ skipped_is (walk_of c.args.input.now) c.requires.fit.by_path c.args.e
    c.args.skip c.requires.entry c.requires.skip
