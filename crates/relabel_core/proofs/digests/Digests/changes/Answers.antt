use Rattle.std.proofs.Common.{◌∙◌, ap}
use Rattle.std.specs.Prelude.{is_some}
use Rattle.relabel_core.specs.Digests.{walk_before}
use Rattle.relabel_core.proofs.ChangeLemmas.{change_shown}
use Rattle.relabel_core.proofs.digests.Digests.changes.Goals as goal

pub returns : goal.returns
returns c =
    c.is_some.ensures ∙ ap is_some c.change_at.ensures ∙ change_shown (walk_before c.args.self.now)
    c.args.d
