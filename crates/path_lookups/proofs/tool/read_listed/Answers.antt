use Rattle.std.proofs.Common.{◌∙◌, ap, sym}
use Rattle.std.specs.Prelude.{Ok}
use Rattle.context_syntax.specs.TypeNames.{NameSet}
use Rattle.label_rules.specs.declared.rules.Rules.{Rules}
use Rattle.policy_files.specs.Rules.{rules_with}
use Rattle.path_lookups.specs.Plan.{rules_found}
use Rattle.run_input.proofs.ReadsLemmas.{followed, refused, valued}
use Rattle.path_lookups.proofs.tool.read_listed.Goals as goal

pub returns-in_err-specs : goal.returns-in_err-specs
unfolding rules_found
returns-in_err-specs g c =
    refused _ _ _ _ _ _ _ _ _ _ c.from_residual.ensures.1 c.in_err-specs.ensures.read

pub returns-in_err-subs : goal.returns-in_err-subs
unfolding rules_found
returns-in_err-subs g c =
    followed _ _ _ _ _ _ _ _ _ _ _ c.in_ok-specs.ensures.read
    (refused _ _ _ _ _ _ _ _ _ _ c.from_residual-in_err-subs.ensures.1 c.in_err-subs.ensures)

pub returns : goal.returns
unfolding rules_found
returns g c =
    followed _ _ _ _ _ _ _ _ _ _ _ c.in_ok-specs.ensures.read
    (valued _ _ _ _ _ _ _ _ _ _ c.in_ok-subs.ensures
    (λ fs. ap (λ (types : NameSet). Ok (rules_with c.in_ok-specs.specs c.in_ok-subs.subs types))
    (sym c.new.ensures) ∙ ap (λ (rules : Rules). Ok rules) (sym c.new-2.ensures)))
