use Rattle.std.proofs.Common.{◌≡◌, ◌+◌, ◌-◌, [], All, length}
use Rattle.inode_claims.specs.Claiming.{fresh_claims}
use Rattle.inode_claims.specs.Answers.{IsPassOf, claim_view}
use Rattle.inode_claims.proofs.claims.Claims.deal.Given as goal

abbrev pub invariant-loop : goal.invariant-loop
invariant-loop l =
    (l.seat.table_id ≡ l.self.table.shared.table_id)
    × (l.seat.me ≡ (fresh_claims (l.passes - length l.all), []))
    × (length l.all + 1 ≡ l.counter)
    × All (λ p. IsPassOf l.self p × (claim_view p ≡ fresh_claims 1)) l.all
