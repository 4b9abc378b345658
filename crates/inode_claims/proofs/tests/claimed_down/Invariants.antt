use Rattle.inode_claims.specs.Answers.{IsPassOf}
use Rattle.inode_claims.proofs.tests.claimed_down.Given as goal

abbrev pub invariant-positions : goal.invariant-positions
invariant-positions l = IsPassOf l.claims l.pass
