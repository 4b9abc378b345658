use Rattle.std.proofs.Common.{refl, subst, sym, []}
use Rattle.pattern_syntax.specs.Language.{Opens}
use Rattle.file_paths.specs.PathRef.{path_of}
use Rattle.spec_match.proofs.RelevantLemmas.{dead_decides}
use Rattle.spec_match.proofs.compiled_spec.CompiledSpec.can_decide.Goals as goal

pub returns-then-not-read_on-clause-value : goal.returns-then-not-read_on-clause-value
returns-then-not-read_on-clause-value c =
    let dead = c.if-not-read_on.ensures.dead refl [] c.restart.ensures.stands in
    sym (dead_decides (path_of c.args.path.now) c.args.self.now.spec
    (subst (λ w. Opens c.args.self.now.spec.pattern w → ⊥) c.as_text.ensures.value dead))
