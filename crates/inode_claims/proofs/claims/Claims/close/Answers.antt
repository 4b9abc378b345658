use Rattle.std.proofs.Common.{rules, arith, ◌≡◌, ℕ, suc, ◌+◌, ◌<◌, get_or, subst, sym, List}
use Rattle.std.specs.Slots.{slots_items}
use Rattle.inode_claims.proofs.Closing.{one_more, closed_wins, closed_shows}
use Rattle.inode_claims.proofs.claims.Claims.close.Goals as goal

pub loop-group-preserved : goal.loop-group-preserved
loop-group-preserved c = let i = c.loop-group.invariant in let e = c.push_reserved.ensures in (
  search rules,
  search rules,
  subst (λ (xs : List ℕ). (k : ℕ) → k < c.loop-group.group + 1
      → get_or xs k 0 ≡ get_or (slots_items c.close_with-closed.result.words) (suc k) 0)
      (sym e.items)
      (one_more _ _ _ _ _ i.0 (omega arith) c.word.ensures i.2),
)

pub free-requires : goal.free-requires
free-requires c = λ k lt. absurd (let a = c.close_with-closed.ensures.counts.1 in
    let b = c.args.self.bare in omega (arith, a, b, lt))

pub returns-clause-wins : goal.returns-clause-wins
returns-clause-wins c = closed_wins _ _ _ _ _ _ c.close_with-closed.ensures.values.2
    (λ k lt. c.loop-group.invariant.2 k (search rules)) (search rules) c.args.pass.possible

pub returns-clause-all : goal.returns-clause-all
returns-clause-all c = λ whole. closed_shows _ _ _ _ _ _ c.close_with-closed.ensures.values.2
    (λ k lt. c.loop-group.invariant.2 k (search rules)) (search rules) c.args.pass.possible whole
