use Rattle.spec_match.specs.StatesFor.{HasRoomForEach}
use Rattle.spec_match.proofs.rule_set.widest.Given as goal

abbrev pub invariant-rules : goal.invariant-rules
invariant-rules l = HasRoomForEach l.rules l.rule-index l.most
