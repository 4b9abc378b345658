use Rattle.std.proofs.Common.{◌∙◌}
use Rattle.relabel_core.specs.Walked.{walk_of}
use Rattle.relabel_core.proofs.CoveredLemmas.{skipped_is}
use Rattle.label_audit.proofs.looking.known_of.Goals as goal

pub winner_unless-requires-clause-skipped : goal.winner_unless-requires-clause-skipped
winner_unless-requires-clause-skipped c =
    c.does_skip.ensures ∙ skipped_is (walk_of c.args.input.now) c.requires.fit.by_path
    c.args.own.entry
    c.args.skip c.requires.entry c.requires.skip
