use Rattle.std.proofs.Common.{◌∙◌, ap, sym, if◌then◌else◌, ◌==◌}
use Rattle.relabel_core.specs.Stored.{digests_in}
use Rattle.relabel_core.proofs.SweptLemmas.{nothing_added}
use Rattle.relabel_core.proofs.stored.keep_given.Goals as goal

pub returns-in-None : goal.returns-in-None
returns-in-None c = λ e.
    nothing_added c.args.stored.now c.args.d c.requires e
    ∙ ap (λ found. if c.args.d == e then found else digests_in c.args.stored.now e)
    (sym c.in-None.is)
