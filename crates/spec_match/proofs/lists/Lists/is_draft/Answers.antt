use Rattle.std.proofs.Common.{arith}
use Rattle.spec_match.proofs.ListLemmas.{draft_at}
use Rattle.spec_match.proofs.lists.Lists.is_draft.Goals as goal

pub returns-clause-onto : goal.returns-clause-onto
returns-clause-onto c = λ e.
    c.have_same.ensures.onto (draft_at c.self.inside.members c.self.inside.spans.items
    c.self.inside.done c.args.i c.index-span.result.now c.args.self.now c.self.view_is c.requires
    c.index-span.ensures c.self.invariant.within c.self.invariant.done e).1

pub returns-then-span-len-clause-onto : goal.returns-then-span-len-clause-onto
returns-then-span-len-clause-onto c = λ e.
    let long = (draft_at c.self.inside.members c.self.inside.spans.items c.self.inside.done c.args.i
    c.index-span.result.now c.args.self.now c.self.view_is c.requires c.index-span.ensures
    c.self.invariant.within c.self.invariant.done e).0 in
    absurd (omega (arith, long, c.len.ensures, c.if-span-len.true))
