use Rattle.std.proofs.Common.{◌≡◌, ◌++◌}
use Rattle.std.specs.Prelude.{filter}
use Rattle.spec_order.specs.Order.{is_exact_spec, is_pattern_spec}
use Rattle.spec_order.proofs.order.divide.Given as goal

-- the halves of the specifications so far
abbrev pub invariant-specs : goal.invariant-specs
invariant-specs l = record {
  patterns : l.patterns ≡ l.fn.patterns ++ filter is_pattern_spec l.yielded;
  exact : l.exact ≡ l.fn.exact ++ filter is_exact_spec l.yielded;
}
