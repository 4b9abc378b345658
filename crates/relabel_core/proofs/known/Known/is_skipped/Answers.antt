use Rattle.std.proofs.Common.{◌∙◌}
use Rattle.relabel_core.specs.Walked.{walk_of}
use Rattle.relabel_core.proofs.CoveredLemmas.{skipped_is}
use Rattle.relabel_core.proofs.known.Known.is_skipped.Goals as goal

pub returns : goal.returns
returns c =
    let known = c.args.self.now in
    c.does_skip.ensures ∙ skipped_is (walk_of known.input) known.fit.by_path known.index known.skip
    known.known.inside known.known.skip_is
