use Rattle.policy_lists.specs.Lines.{HaveRoomTo}
use Rattle.policy_lists.proofs.policy.widest.Given as goal

abbrev pub invariant-lines : goal.invariant-lines
invariant-lines l = HaveRoomTo l.lines l.line-index l.most
