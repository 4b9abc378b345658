use Rattle.std.proofs.Common.{◌≡◌, map}
use Rattle.policy_lists.specs.Lines.{spec_of}
use Rattle.policy_lists.proofs.policy.lines_of.Given as goal

abbrev pub invariant-specs : goal.invariant-specs
invariant-specs l = map spec_of l.lines.items ≡ l.yielded
