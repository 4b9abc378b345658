use Rattle.std.proofs.Common.{◌∙◌, ap₂}
use Rattle.relabel_core.specs.Walk.{is_changed_name}
use Rattle.label_audit.proofs.ahead.look_over.Goals as goal

pub returns-clause-changed : goal.returns-clause-changed
returns-clause-changed c =
    c.is_changed.ensures ∙ ap₂ (λ w e. is_changed_name w e) c.in_ok-known.ensures.walk
    c.in_ok-known.ensures.index
