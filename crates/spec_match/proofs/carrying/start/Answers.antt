use Rattle.std.proofs.Common.{◌<◌, ◌-◌, ◌∙◌, ap, arith, length}
use Rattle.spec_match.specs.StatesFor.{patterns_of}
use Rattle.spec_match.specs.declared.compiled_spec.CompiledSpec.{CompiledSpec}
use Rattle.spec_match.proofs.AliveLemmas.{all_started, started_on}
use Rattle.spec_match.proofs.AnswerLemmas.{count_rules, pattern_of_rule}
use Rattle.spec_match.proofs.carrying.start.Goals as goal

pub rules-preserved : goal.rules-preserved
rules-preserved c =
    let i = c.rules.left - 1 in
    let rule = c.index-rules-left.result in
    let l : i < length c.args.rules.now = omega arith in
    let begun = c.in_ok-start_one.ensures in
    let pattern = ap (λ (r : CompiledSpec). r.spec.pattern) c.index-rules-left.is
    ∙ pattern_of_rule c.args.rules.now i rule l in record {
      within = omega arith;
      started = started_on (patterns_of c.args.rules.now) rule.spec.pattern begun.states c.rules.to
          c.start_one.new.to i c.rules.left (omega arith)
          (omega (arith, count_rules c.args.rules.now)) pattern begun.made begun.stands begun.more
          c.rules.invariant.started;
    }

pub returns-clause-alive : goal.returns-clause-alive
returns-clause-alive c = all_started (patterns_of c.args.rules.now) c.rules.to c.rules.left
    (omega arith) c.rules.invariant.started
