use Rattle.std.proofs.Common.{◌∙◌}
use Rattle.relabel_core.specs.Walked.{walk_of}
use Rattle.relabel_core.proofs.CoveredLemmas.{skipped_is}
use Rattle.relabel_core.proofs.swept.is_skipped.Goals as goal

pub returns : goal.returns
returns c =
    c.does_skip.ensures
    ∙ skipped_is (walk_of c.args.input.now) c.requires.fit.by_path c.args.e c.skip.result
    c.requires.entry
    (c.skip.ensures ∙ c.requires.swept.skips_are c.args.e c.requires.entry)
