use Rattle.std.proofs.Common.{◌∙◌, ap, sym}
use Rattle.dir_digest.specs.Digest.{void_digest}
use Rattle.relabel_core.specs.Changes.{unless_stored}
use Rattle.relabel_core.specs.Walked.{walk_of}
use Rattle.relabel_core.proofs.ChangeLemmas.{change_none, change_renewed, change_void}
use Rattle.relabel_core.proofs.after.digest_change.Goals as goal

pub returns-in-Some : goal.returns-in-Some
returns-in-Some c =
    let digest = c.in-Some.digest in
    c.unless_stored.ensures ∙ ap (λ stored. unless_stored digest stored) c.get.ensures
    ∙ sym (change_renewed (walk_of c.args.input.now) c.args.d digest
    (sym c.requires.renewed ∙ c.in-Some.is))

pub returns-then-not-is_void : goal.returns-then-not-is_void
returns-then-not-is_void c =
    sym (change_none (walk_of c.args.input.now) c.args.d (sym c.requires.renewed ∙ c.in-None.is)
    (sym c.is_void.ensures ∙ c.if-not-is_void.true))

pub returns-else-not-is_void : goal.returns-else-not-is_void
returns-else-not-is_void c =
    c.unless_stored-in-None.ensures ∙ ap (λ stored. unless_stored void_digest stored)
    c.get-in-None.ensures
    ∙ sym (change_void (walk_of c.args.input.now) c.args.d (sym c.requires.renewed ∙ c.in-None.is)
    (sym c.is_void.ensures ∙ c.if-not-is_void.false))
