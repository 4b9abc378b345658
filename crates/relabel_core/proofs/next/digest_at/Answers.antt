use Rattle.std.proofs.Common.{◌∙◌, ap}
use Rattle.relabel_core.specs.DigestAfter.{digest_seen}
use Rattle.relabel_core.specs.Walk.{Walk}
use Rattle.relabel_core.proofs.next.digest_at.Goals as goal

pub returns : goal.returns
returns c =
    c.in_ok-digest.ensures
    ∙ ap (λ stored. digest_seen c.at.result stored)
    (c.get.ensures ∙ ap (λ (w : Walk). w.stored c.args.d) c.walked-walked.ensures)
    ∙ c.at.ensures.seen
