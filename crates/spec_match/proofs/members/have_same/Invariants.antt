use Rattle.std.proofs.Common.{◌≡◌, drop, take}
use Rattle.spec_match.proofs.members.have_same.Given as goal

abbrev pub invariant-members : goal.invariant-members
invariant-members l = take l.k (drop l.a l.members) ≡ take l.k (drop l.b l.members)
