use Rattle.std.proofs.Common.{◌∙◌, ap, sym}
use Rattle.relabel_core.specs.Changes.{unless_stored}
use Rattle.relabel_core.specs.Walked.{walk_of}
use Rattle.relabel_core.proofs.ChangeLemmas.{change_renewed}
use Rattle.label_audit.proofs.digests.digest_at.Goals as goal

pub returns-in-Some-clause-found : goal.returns-in-Some-clause-found
returns-in-Some-clause-found c =
    let digest = c.in-Some.digest in
    c.unless_stored.ensures ∙ ap (λ stored. unless_stored digest stored) c.get.ensures
    ∙ sym (change_renewed (walk_of c.args.input.now) c.args.found.now.at.entry digest
    (sym c.requires.renewed ∙ c.in-Some.is))
