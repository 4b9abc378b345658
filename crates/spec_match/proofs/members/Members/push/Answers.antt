use Rattle.std.proofs.Common.{◌∙◌, arith, length, length-append, refl}
use Rattle.spec_match.proofs.MemberLemmas.{members_more, laid_more}
use Rattle.spec_match.proofs.members.Members.push.Goals as goal

pub invariant_of-self : goal.invariant_of-self
invariant_of-self c =
    rw (c.in-Ok.ensures.items, c.in-Ok-push.ensures.items)
    (laid_more (length c.self.inside.words.items) 0 _ c.self.inside.members.items c.in-Some.member
    c.self.invariant (omega (arith, c.in-Some.ensures.start))
    (omega (
      arith,
      c.in-Some.ensures.width,
      length-append c.self.inside.words.items
          c.marks-marks.result.now,
    )))

pub returns : goal.returns
returns c =
    rw (c.in-Ok.ensures.items, c.in-Ok-push.ensures.items)
    (members_more c.self.inside.words.items c.marks-marks.result.now c.self.inside.members.items
    c.in-Some.member c.args.index c.args.states.now.known.seen c.args.wants c.self.invariant
    c.in-Some.ensures.index (c.in-Some.ensures.seen ∙ c.seen.ensures)
    (omega (arith, c.in-Some.ensures.start)) (omega (arith, c.in-Some.ensures.width))
    c.in-Some.ensures.wants
    ∙ rw (c.self.view_is, c.marks-marks.ensures) refl)
