use Rattle.std.proofs.Common.{◌∙◌, sym, arith}
use Rattle.path_reasons.specs.Members.{applies_to, spec_seen}
use Rattle.path_reasons.proofs.MemberLemmas.{mapped_place, next_place, no_place, place_here}
use Rattle.path_reasons.proofs.members.place_for.Goals as goal

pub members-preserved : goal.members-preserved
members-preserved c = record {
  count = omega (arith, c.members.invariant.count);
  place = next_place (λ m. applies_to c.args.asked (spec_seen m)) c.args.members.now
      c.members.member-index c.member-item.result c.members.count _ c.members-test.true
      c.member-item.is c.members.invariant.place (sym c.applies_to.ensures ∙ c.if-applies_to.false);
}

pub returns-then-applies_to-clause-value : goal.returns-then-applies_to-clause-value
returns-then-applies_to-clause-value c =
    place_here (λ m. applies_to c.args.asked (spec_seen m)) c.args.members.now
    c.members.member-index c.member-item.result c.members.count _ c.members-test.true
    c.member-item.is c.members.invariant.place (sym c.applies_to.ensures ∙ c.if-applies_to.true)
    ∙ mapped_place (applies_to c.args.asked) spec_seen c.args.members.now

pub returns-clause-value : goal.returns-clause-value
returns-clause-value c =
    no_place (λ m. applies_to c.args.asked (spec_seen m)) c.args.members.now
    c.members.member-index c.members.count _ c.members-test.false c.members.invariant.place
    ∙ mapped_place (applies_to c.args.asked) spec_seen c.args.members.now
