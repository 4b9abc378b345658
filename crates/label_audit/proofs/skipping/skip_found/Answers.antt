use Rattle.std.proofs.Common.{◌∙◌, sym}
use Rattle.relabel_core.specs.Walked.{walk_of}
use Rattle.relabel_core.proofs.CoveredLemmas.{left_out}
use Rattle.label_audit.proofs.SkipLemmas.{passes_by, passes_over}
use Rattle.label_audit.proofs.skipping.skip_found.Goals as goal

pub returns-then-found : goal.returns-then-found
returns-then-found c =
    passes_over (walk_of c.args.input.now) c.requires.fit.by_path c.args.at.entry c.args.at.end
    c.extent.result c.requires.covers c.requires.entry c.requires.outside
    (sym c.requires.skippable ∙ c.if-found.true) c.extent.ensures.run

pub renewed_digest-requires-clause-skipped : goal.renewed_digest-requires-clause-skipped
renewed_digest-requires-clause-skipped c =
    sym (left_out (walk_of c.args.input.now) c.requires.fit.by_path c.args.at.entry c.args.at.end
    c.requires.covers c.requires.entry c.requires.outside
    (sym c.requires.skippable ∙ c.if-found.false))

pub returns : goal.returns
returns c =
    passes_by (walk_of c.args.input.now) c.requires.fit.by_path c.args.at.entry c.args.at.end
    c.renewed_digest.result c.requires.covers c.requires.entry c.requires.outside
    (sym c.requires.skippable ∙ c.if-found.false) c.renewed_digest.ensures
