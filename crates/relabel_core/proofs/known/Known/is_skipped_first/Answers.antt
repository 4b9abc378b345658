use Rattle.std.proofs.Common.{◌∙◌}
use Rattle.relabel_core.specs.Walked.{walk_of}
use Rattle.relabel_core.proofs.SweptLemmas.{first_is}
use Rattle.relabel_core.proofs.known.Known.is_skipped_first.Goals as goal

pub returns : goal.returns
returns c =
    let known = c.args.self.now in
    c.is_first.ensures ∙ first_is (walk_of known.input) known.index known.skip known.known.skip_is
