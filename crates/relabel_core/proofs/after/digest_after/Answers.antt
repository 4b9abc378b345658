use Rattle.std.proofs.Common.{◌∙◌, ap, sym, Some, if◌then◌else◌}
use Rattle.dir_digest.specs.Digest.{void_digest}
use Rattle.relabel_core.specs.Changes.{is_void}
use Rattle.relabel_core.specs.DigestAfter.{after_by, digest_seen, void_if}
use Rattle.relabel_core.specs.Walked.{walk_of}
use Rattle.relabel_core.proofs.ChangeLemmas.{after_other, after_renewed, shown_void}
use Rattle.relabel_core.proofs.after.digest_after.Goals as goal

pub returns-in-Some-clause-seen : goal.returns-in-Some-clause-seen
returns-in-Some-clause-seen c =
    sym (after_renewed (walk_of c.args.input.now) c.args.d c.in-Some.digest
    (sym c.requires.renewed ∙ c.in-Some.is))

pub returns-in-Some-clause-kind : goal.returns-in-Some-clause-kind
returns-in-Some-clause-kind c =
    ap (λ found. after_by found (is_void (walk_of c.args.input.now) c.args.d))
    (sym c.in-Some.is ∙ c.requires.renewed)

pub returns-in-None-clause-seen : goal.returns-in-None-clause-seen
returns-in-None-clause-seen c =
    let w = walk_of c.args.input.now in
    ap (λ after. digest_seen after (w.stored c.args.d)) c.void_if.ensures
    ∙ shown_void c.is_void.result (w.stored c.args.d)
    ∙ ap (λ b. if b then Some void_digest else w.stored c.args.d) c.is_void.ensures
    ∙ sym (after_other w c.args.d (sym c.requires.renewed ∙ c.in-None.is))

pub returns-in-None-clause-kind : goal.returns-in-None-clause-kind
returns-in-None-clause-kind c =
    c.void_if.ensures ∙ ap void_if c.is_void.ensures
    ∙ ap (λ found. after_by found (is_void (walk_of c.args.input.now) c.args.d))
    (sym c.in-None.is ∙ c.requires.renewed)
