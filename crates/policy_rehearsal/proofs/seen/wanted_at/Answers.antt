use Rattle.std.proofs.Common.{◌∙◌, ap₂, sym}
use Rattle.label_rules.specs.LookUp.{given_at}
use Rattle.label_rules.specs.declared.rules.Rules.{Rules}
use Rattle.relabel_core.specs.Walk.{wanted}
use Rattle.policy_rehearsal.proofs.seen.wanted_at.Goals as goal

pub returns : goal.returns
unfolding wanted
returns c =
    c.given_at.ensures
    ∙ ap₂ (λ (rules : Rules) found. given_at rules.rules found) (sym c.requires.seen.rules)
    c.deciding.ensures
