use Rattle.std.proofs.Common.{◌∙◌, sym}
use Rattle.relabel_core.specs.Walked.{walk_of}
use Rattle.relabel_core.proofs.SweptLemmas.{unasked}
use Rattle.relabel_core.proofs.directories.sweep_directories.Goals as goal

pub returns-then-not-uses_digests-clause-swept : goal.returns-then-not-uses_digests-clause-swept
returns-then-not-uses_digests-clause-swept c =
    unasked (walk_of c.args.input.now) _ _ (sym c.uses_digests.ensures ∙ c.if-not-uses_digests.true)
    c.none.ensures.skips c.none.ensures.made
