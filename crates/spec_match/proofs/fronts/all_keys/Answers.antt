use Rattle.std.proofs.Common.{◌≡◌, ◌∙◌, ap, arith}
use Rattle.pattern_syntax.specs.Literal.{literal_start_of}
use Rattle.spec_match.specs.Alive.{pattern_at}
use Rattle.spec_match.specs.Fronts.{all_keys}
use Rattle.spec_match.specs.StatesFor.{patterns_of}
use Rattle.spec_match.specs.declared.compiled_spec.CompiledSpec.{CompiledSpec}
use Rattle.spec_match.proofs.AnswerLemmas.{count_rules, pattern_of_rule}
use Rattle.spec_match.proofs.FrontLemmas.{keys_end, keys_on}
use Rattle.spec_match.proofs.fronts.all_keys.Goals as goal

pub rules-preserved : goal.rules-preserved
rules-preserved c =
    let rules = c.args.rules.now in
    let i = c.rules.i in
    let rule = c.index-rules-i.result in
    let pattern : rule.spec.pattern ≡ pattern_at (patterns_of rules) i =
    ap (λ (r : CompiledSpec). r.spec.pattern) c.index-rules-i.is
    ∙ pattern_of_rule rules i rule (omega arith) in
    keys_on (patterns_of rules) i c.start.result.now c.rules.keys.items c.add_fronts.new.keys.items
    (all_keys 0 (patterns_of rules)) (omega (arith, count_rules rules))
    (c.start.ensures ∙ ap literal_start_of pattern) c.in_ok-add_fronts.ensures c.rules.invariant

pub returns : goal.returns
returns c = keys_end (patterns_of c.args.rules.now) c.rules.i c.rules.keys.items
    (all_keys 0 (patterns_of c.args.rules.now)) (omega (arith, count_rules c.args.rules.now))
    c.rules.invariant
