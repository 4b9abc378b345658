use Rattle.std.proofs.Common.{◌∷◌, ◌++◌, ◌-◌, [], ap, arith, ◌∙◌}
use Rattle.spec_match.specs.Written.{Written, lists_written}
use Rattle.spec_match.proofs.ListLemmas.{cut, closed, within_more}
use Rattle.spec_match.proofs.lists.Lists.close.Goals as goal

pub returns-then-len-capacity : goal.returns-then-len-capacity
returns-then-len-capacity c =
    cut c.self.inside.members c.truncate.new.self c.self.inside.spans.items c.self.inside.done
    c.self.invariant.within c.self.invariant.done c.truncate.ensures
    ∙ ap (λ (w : Written). lists_written w.lists []) c.self.view_is

pub invariant_of-self-2 : goal.invariant_of-self-2
invariant_of-self-2 c =
    record {
      within = rw c.in-Ok.ensures.items
          (within_more c.self.inside.done c.len-self-inside.result c.self.inside.spans.items _
          c.self.invariant.within (omega (arith, c.self.invariant.done))
          (omega (arith, c.self.invariant.done)));
      done = omega arith;
    }

pub returns : goal.returns
returns c =
    rw c.in-Ok.ensures.items
    (closed c.self.inside.members c.self.inside.spans.items
    (record { start = c.self.inside.done; len = c.len-2.result - c.self.inside.done })
    c.len-self-inside.result (ap (λ n. n - c.self.inside.done) c.len-2.ensures)
    c.len-self-inside.ensures
    ∙ ap (λ (w : Written). lists_written (w.lists ++ w.draft ∷ []) []) c.self.view_is)
