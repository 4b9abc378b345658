use Rattle.std.proofs.Common.{◌≡◌, ◌∙◌, sym, ap, true, false, arith}
use Rattle.std.specs.Prelude.{not}
use Rattle.std.specs.Cmp.Lexicographic.{bytes_decides}
use Rattle.spec_match.specs.Alive.{Alive}
use Rattle.spec_match.proofs.MemberLemmas.{same_option}
use Rattle.spec_match.proofs.members.is_same.Goals as goal

pub returns-then-index-clause-onto : goal.returns-then-index-clause-onto
returns-then-index-clause-onto c = λ e.
    absurd (c.if-index.true (c.index.ensures ∙ ap (λ (a : Alive). a.index) e
    ∙ sym c.index-2.ensures))

pub returns-then-seen-clause-onto : goal.returns-then-seen-clause-onto
returns-then-seen-clause-onto c = λ e.
    absurd (c.if-seen.true (c.seen.ensures ∙ ap (λ (a : Alive). a.states.seen) e
    ∙ sym c.seen-2.ensures))

pub returns-then-ne-clause-onto : goal.returns-then-ne-clause-onto
returns-then-ne-clause-onto c = λ e.
    let same : c.wants.result ≡ c.wants-2.result =
    c.wants.ensures ∙ ap (λ (a : Alive). a.wants) e ∙ sym c.wants-2.ensures in
    let f : true ≡ false = sym c.if-ne.true ∙ c.ne.ensures
    ∙ ap not (same_option _ (λ n. grind arith) _ _ same) in
    cc

pub returns-clause-onto : goal.returns-clause-onto
returns-clause-onto c = λ e.
    c.eq.ensures
    ∙ (bytes_decides _ _).1 (c.marks.ensures ∙ ap (λ (a : Alive). a.states.marks) e
    ∙ sym c.marks-2.ensures)
