use Rattle.std.proofs.Common.{◌≡◌, ◌++◌, drop}
use Rattle.spec_match.specs.Fronts.{all_keys}
use Rattle.spec_match.specs.StatesFor.{patterns_of}
use Rattle.spec_match.proofs.fronts.all_keys.Given as goal

abbrev pub invariant-rules : goal.invariant-rules
invariant-rules l = l.keys.items ++ all_keys l.i (drop l.i (patterns_of l.rules))
    ≡ all_keys 0 (patterns_of l.rules)
