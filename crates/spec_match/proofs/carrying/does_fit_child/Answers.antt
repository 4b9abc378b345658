use Rattle.std.proofs.Common.{◌∷◌, ◌++◌, [], refl, sym}
use Rattle.file_paths.specs.Path.{path_text}
use Rattle.spec_match.proofs.AnswerLemmas.{dead_fits}
use Rattle.spec_match.proofs.carrying.does_fit_child.Goals as goal

pub returns-then-not-read_child-clause-value : goal.returns-then-not-read_child-clause-value
returns-then-not-read_child-clause-value c = λ path r s.
    sym (dead_fits c.args.query.now.asked (path_text (path ++ c.args.query.now.name.now ∷ []))
    c.args.rule.now.spec
    (c.if-not-read_child.ensures.dead refl path r s))
