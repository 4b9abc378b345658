use Rattle.spec_match.specs.Chains.{AreChained}
use Rattle.spec_match.proofs.starts.Starts.new.Given as goal

abbrev pub invariant-rules : goal.invariant-rules
invariant-rules l = AreChained l.rules l.count l.i l.heads.items l.previous.items
