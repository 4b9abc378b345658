use Rattle.std.proofs.Common.{◌≤◌, ◌<◌, ◌+◌, List, arith, length, subst, sym}
use Rattle.std.proofs.lemmas.List.{length-map}
use Rattle.spec_match.specs.Alive.{Alive}
use Rattle.spec_match.specs.Members.{alive_in}
use Rattle.spec_match.specs.declared.members.Member.{Member}
use Rattle.spec_match.proofs.MemberLemmas.{laid_within}
use Rattle.spec_match.proofs.members.Members.marks.Goals as goal

pub slice_bounds-result-end : goal.slice_bounds-result-end
slice_bounds-result-end c =
    let inside = subst (λ (l : List Alive). c.args.k < length l) (sym c.self.view_is) c.requires in
    let within = laid_within (length c.self.inside.words.items) 0 c.self.inside.members.items
    c.args.k c.index-member.result.now c.self.invariant
    (omega (
      arith,
      inside,
      length-map c.self.inside.members.items
          (alive_in c.self.inside.words.items),
    )) in
    let here = subst (λ (m : Member). m.start + m.width ≤ length c.self.inside.words.items)
    (sym c.index-member.ensures) within in
    omega (arith, here)
