use Rattle.std.proofs.Common.{◌∙◌}
use Rattle.relabel_core.specs.Walked.{walk_of}
use Rattle.relabel_core.proofs.SweptLemmas.{met_is}
use Rattle.relabel_core.proofs.finding.find_directory.Goals as goal

pub returns-clause-skippable : goal.returns-clause-skippable
returns-clause-skippable c =
    c.meets-skippable.ensures ∙ met_is (walk_of c.args.input.now) c.args.d _
    c.in_ok-digest.ensures.found
