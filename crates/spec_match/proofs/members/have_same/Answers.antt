use Rattle.std.proofs.Common.{◌∙◌, sym, arith}
use Rattle.spec_match.proofs.MemberLemmas.{same_at}
use Rattle.spec_match.proofs.members.have_same.Goals as goal

pub returns-then-not-is_same-clause-onto : goal.returns-then-not-is_same-clause-onto
returns-then-not-is_same-clause-onto c = λ e.
    sym c.if-not-is_same.true
    ∙ c.is_same.ensures.onto (same_at c.args.members.now c.args.a c.args.b c.args.n c.members.k e
    (omega (arith, c.members-test.true)))
