use Rattle.std.proofs.Common.{◌∙◌, ap₂}
use Rattle.relabel_core.specs.Walk.{is_changed_name}
use Rattle.relabel_core.proofs.walked.Walked.is_changed.Goals as goal

pub returns : goal.returns
returns c = c.is_changed.ensures ∙ ap₂ (λ w e. is_changed_name w e) c.known.ensures.walk
    c.known.ensures.index
