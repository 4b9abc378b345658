use Rattle.std.proofs.Common.{◌∙◌, sym}
use Rattle.relabel_core.specs.Walked.{walk_of}
use Rattle.relabel_core.proofs.SweptLemmas.{none_renewed_if_dry, none_renewed_if_skipped}
use Rattle.relabel_core.proofs.SweptLemmas.{renewed_as_found}
use Rattle.relabel_core.proofs.finding.renewed_digest.Goals as goal

pub returns-then-skipped : goal.returns-then-skipped
returns-then-skipped c =
    sym (none_renewed_if_skipped (walk_of c.args.input.now) c.requires.fit.by_path c.args.d
    (sym c.requires.skipped ∙ c.if-skipped.true))

pub returns-then-input : goal.returns-then-input
returns-then-input c = sym (none_renewed_if_dry (walk_of c.args.input.now) c.args.d c.if-input.true)

pub returns : goal.returns
returns c =
    c.requires.found
    ∙ sym (renewed_as_found (walk_of c.args.input.now) c.requires.fit.by_path c.args.d
    c.requires.entry
    (sym c.requires.skipped ∙ c.if-skipped.false) c.if-input.false)
