use Rattle.std.proofs.Common.{◌∙◌, subst, sym}
use Rattle.file_paths.specs.Path.{path_text}
use Rattle.pattern_match.specs.States.{StandsFor}
use Rattle.pattern_syntax.specs.Language.{Opens}
use Rattle.spec_match.proofs.CarryLemmas.{other_child, root_child}
use Rattle.spec_match.proofs.compiled_spec.CompiledSpec.read_child.Goals as goal

pub returns-then-is_root-clause-stands : goal.returns-then-is_root-clause-stands
returns-then-is_root-clause-stands c = λ v path r s.
    subst (StandsFor c.args.self.now.spec.pattern c.read_on.new.states.known)
    (root_child path c.args.name.now (sym c.if-is_root.true ∙ r))
    (c.read_on.ensures.stands v (path_text path) s)

pub returns-then-is_root-clause-dead : goal.returns-then-is_root-clause-dead
returns-then-is_root-clause-dead c = λ v path r s o.
    c.read_on.ensures.dead v (path_text path) s
    (subst (Opens c.args.self.now.spec.pattern)
    (sym (root_child path c.args.name.now (sym c.if-is_root.true ∙ r))) o)

pub returns-clause-stands : goal.returns-clause-stands
returns-clause-stands c = λ v path r s.
    subst (StandsFor c.args.self.now.spec.pattern c.read_on-2.new.states.known)
    (other_child path c.args.name.now (sym c.if-is_root.false ∙ r))
    (c.read_on-2.ensures.stands v _ (c.step.ensures.stands (path_text path) s))

pub returns-clause-dead : goal.returns-clause-dead
returns-clause-dead c = λ v path r s o.
    c.read_on-2.ensures.dead v _ (c.step.ensures.stands (path_text path) s)
    (subst (Opens c.args.self.now.spec.pattern)
    (sym (other_child path c.args.name.now (sym c.if-is_root.false ∙ r))) o)
