use Rattle.std.proofs.Common.{◌<◌, ◌+◌, arith, length, subst, sym}
use Rattle.spec_match.specs.Alive.{alive_list}
use Rattle.spec_match.specs.Written.{Written}
use Rattle.spec_match.specs.declared.lists.Span.{Span}
use Rattle.spec_match.proofs.ListLemmas.{place_within}
use Rattle.spec_match.proofs.lists.Lists.load.Goals as goal

pub overflow_add-index : goal.overflow_add-index
overflow_add-index c =
    let inside = subst (λ (w : Written). c.args.k < length (alive_list w.lists c.args.i))
    (sym c.self.view_is) c.requires.within in
    let place = place_within c.self.inside.members c.self.inside.done c.self.inside.spans.items
    c.args.i c.args.k c.index.result.now c.self.invariant.within inside in
    let here = subst (λ (s : Span). s.start + c.args.k < c.self.inside.done) (sym c.index.ensures)
    place in
    omega (arith, here, c.self.invariant.done)
