use Rattle.std.proofs.Common.{◌≡◌, ◌∷◌, ◌++◌, [], cond, drop, map, subst}
use Rattle.spec_match.specs.Alive.{alive}
use Rattle.spec_match.specs.Written.{Written, list_at, lists_written}
use Rattle.spec_match.proofs.ListLemmas.{pushed}
use Rattle.spec_match.proofs.lists.Lists.push.Goals as goal

pub returns : goal.returns
returns c =
    let x = alive c.args.index c.args.states.now.known c.args.wants in
    let new = c.push.new.self in
    subst (λ (w : Written). lists_written (map (list_at new) c.self.inside.spans.items)
    (drop c.self.inside.done new) ≡ cond c.push.result
    (lists_written w.lists (w.draft ++ x ∷ [])) w) c.self.view_is
    (pushed c.push.result c.self.inside.members new x c.self.inside.spans.items c.self.inside.done
    c.self.invariant.within c.self.invariant.done c.push.ensures)
