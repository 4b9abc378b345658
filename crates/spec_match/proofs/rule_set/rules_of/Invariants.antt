use Rattle.std.proofs.Common.{◌≡◌, map}
use Rattle.spec_match.specs.StatesFor.{spec_in}
use Rattle.spec_match.proofs.rule_set.rules_of.Given as goal

abbrev pub invariant-specs : goal.invariant-specs
invariant-specs l = map spec_in l.rules.items ≡ l.yielded
