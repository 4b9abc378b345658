use Rattle.std.proofs.Common.{◌≡◌, ◌∙◌, ap, ◌++◌, rules, take, drop}
use Rattle.std.specs.Prelude.{filter}
use Rattle.spec_order.specs.Order.{is_exact_spec, is_pattern_spec}
use Rattle.spec_order.proofs.OrderLemmas.{exact_moved, patterns_kept}
use Rattle.spec_order.proofs.order.parted_at.Goals as goal

pub returns-clause-patterns : goal.returns-clause-patterns
returns-clause-patterns c =
    let parted : c.divide.new.patterns ≡ take c.args.count c.args.specs
    ++ filter is_pattern_spec (drop c.args.count c.args.specs) = search rules in
    parted ∙ patterns_kept c.args.specs c.args.count c.requires.all_patterns

pub returns-clause-exact : goal.returns-clause-exact
returns-clause-exact c =
    let parted : c.divide.new.exact ≡ c.args.exact.now
    ++ filter is_exact_spec (drop c.args.count c.args.specs) = search rules in
    parted ∙ ap (λ l. c.args.exact.now ++ l)
    (exact_moved c.args.specs c.args.count c.requires.none_exact)
