use Rattle.std.proofs.Common.{◌≡◌, [], take}
use Rattle.std.specs.Prelude.{filter}
use Rattle.spec_order.specs.Order.{is_exact_spec, is_pattern_spec}
use Rattle.spec_order.proofs.order.count_before_exact.Given as goal

-- all so far are patterns
abbrev pub invariant-specs : goal.invariant-specs
invariant-specs l = record {
  count : l.count ≡ l.spec-index;
  none_exact : filter is_exact_spec (take l.spec-index l.specs) ≡ [];
  all_patterns : filter is_pattern_spec (take l.spec-index l.specs) ≡ take l.spec-index l.specs;
}
