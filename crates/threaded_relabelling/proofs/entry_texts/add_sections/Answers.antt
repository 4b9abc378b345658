use Rattle.std.proofs.Common.{◌∙◌, ap}
use Rattle.std.proofs.lemmas.Result.{IfOk-weaker}
use Rattle.relabel_core.specs.Digests.{walk_before}
use Rattle.relabel_core.specs.Walk.{walk_count}
use Rattle.threaded_relabelling.proofs.TextLemmas.{sections_made}
use Rattle.threaded_relabelling.proofs.entry_texts.add_sections.Goals as goal

pub returns : goal.returns
returns g c =
    IfOk-weaker _ _ _ (λ made m. sections_made (walk_before c.args.digests.now) c.args.to made
    c.len-count.result
    (c.len-count.ensures ∙ ap walk_count c.walked.ensures) m) c.add_texts.ensures
