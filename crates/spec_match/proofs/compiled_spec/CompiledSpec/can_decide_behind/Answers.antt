use Rattle.std.proofs.Common.{refl, sym, false, true, ◌∙◌}
use Rattle.file_paths.specs.Path.{path_text}
use Rattle.pattern_match.proofs.Quotients.{below_test}
use Rattle.pattern_match.proofs.Reading.{root_below, accepted_below, below_by}
use Rattle.spec_match.proofs.RelevantLemmas.{accepts_shows, no_names, some_names}
use Rattle.spec_match.proofs.compiled_spec.CompiledSpec.can_decide_behind.Goals as goal

pub returns-then-is_root-clause-value : goal.returns-then-is_root-clause-value
returns-then-is_root-clause-value c = λ path r s.
    let tree = c.args.self.now.spec.pattern in
    below_test tree path c.alive.result
    (root_below tree path (path_text path) c.args.states.now.known c.alive.result refl
    (no_names path (sym c.if-is_root.true ∙ r)) s c.alive.ensures)

pub returns-then-accepts-clause-value : goal.returns-then-accepts-clause-value
returns-then-accepts-clause-value c = λ path r s.
    let tree = c.args.self.now.spec.pattern in
    below_test tree path true (accepted_below tree path (path_text path) c.args.states.now.known
    refl
    (some_names path (sym c.if-is_root.false ∙ r)) s
    (λ text t. accepts_shows tree text true (c.if-accepts.ensures text t)))

pub returns-clause-value : goal.returns-clause-value
returns-clause-value c = λ path r s.
    let tree = c.args.self.now.spec.pattern in
    below_test tree path c.alive-2.result
    (below_by tree path (path_text path) c.args.states.now.known c.step.new.states.known false
    c.alive-2.result refl (some_names path (sym c.if-is_root.false ∙ r)) s
    (λ text t. accepts_shows tree text false (c.if-accepts.ensures text t)) refl
    c.step.ensures.stands c.alive-2.ensures)
