use Rattle.std.proofs.Common.{◌≡◌, ◌+◌, ◌-◌, ◌==◌, refl, sym, ◌∙◌, ap, arith}
use Rattle.std.specs.Prelude.{◌||◌, ◌&&◌}
use Rattle.pattern_match.specs.Passes.{ends_marked, holds_nothing, moves_to}
use Rattle.pattern_match.specs.States.{bit}
use Rattle.pattern_match.proofs.Barred.{entered_alike}
use Rattle.pattern_match.proofs.Idle.{idle_ends, idle_moves}
use Rattle.pattern_match.proofs.Turning.{leads_nowhere, IsNextCopy, moved_on, or_none}
use Rattle.pattern_match.proofs.Turning.{ended_on, moves_turned, ends_turned}
use Rattle.pattern_match.proofs.passing.+pass.Goals as goal
use Rattle.pattern_match.proofs.passing.+pass.Goals.{pass_copies-then-copies}
use Rattle.pattern_match.proofs.passing.+pass.Goals.{pass_copies-else-copies}
use Rattle.pattern_match.proofs.passing.+pass.Goals.{pass_copies-then-entered}
use Rattle.pattern_match.proofs.passing.+pass.Goals.{pass_copies-else-entered}

pub pass-returns-then-places-eq0-clause-bits : goal.pass-returns-then-places-eq0-clause-bits
pass-returns-then-places-eq0-clause-bits t c = λ q l. or_none (bit c.args.to.now q) _
    (leads_nowhere c.args.step.now.entry (bit c.args.step.now.from.now) q c.args.part.now
    c.args.turn.entered c.args.turn.start (omega arith))

pub pass-returns-then-places-eq0-clause-ends : goal.pass-returns-then-places-eq0-clause-ends
pass-returns-then-places-eq0-clause-ends t c =
    sym (idle_ends (bit c.args.step.now.from.now) c.args.part.now c.args.turn.start
    (record { none = λ k a b. absurd (omega arith) }))

pub pass-returns-then-next_marked-end-clause-bits :
    goal.pass-returns-then-next_marked-end-clause-bits
pass-returns-then-next_marked-end-clause-bits t c = λ q l. or_none (bit c.args.to.now q) _
    (ap (λ v. moves_to c.args.step.now.entry (bit c.args.step.now.from.now) q c.args.part.now v
    c.args.turn.start) c.if-not-turn.true
    ∙ idle_moves c.args.step.now.entry (bit c.args.step.now.from.now) q c.args.part.now
    c.args.turn.start
    (record { none = λ k a b. c.next_marked.ensures.none k a (omega arith) }))

pub pass-returns-then-next_marked-end-clause-ends :
    goal.pass-returns-then-next_marked-end-clause-ends
pass-returns-then-next_marked-end-clause-ends t c =
    sym (idle_ends (bit c.args.step.now.from.now) c.args.part.now c.args.turn.start
    (record { none = λ k a b. c.next_marked.ensures.none k a (omega arith) }))

pub pass_copies-copies-init : goal.pass_copies-copies-init
pass_copies-copies-init t c =
    let s = c.args.copies.now in
    let marked = bit c.args.step.now.from.now in
    let next : IsNextCopy marked s.start s.size s.times 0 c.next_copy-copy.result c.args.entered =
    record {
      least = c.next_copy-copy.ensures.least;
      most = c.next_copy-copy.ensures.most;
      here = c.next_copy-copy.ensures.here;
      none = λ e. record { none = c.next_copy-copy.ensures.none e };
    } in
    record {
      words = refl;
      within = c.next_copy-copy.ensures.most;
      bits = λ q l. ap (λ v. bit c.args.to.now q || v)
          (sym (moved_on marked c.args.piece.now s.start s.size s.times c.args.step.now.entry q 0
          c.next_copy-copy.result s.times s.start s.is_endless c.args.entered c.requires.size
          (omega arith) (omega arith) next));
      ends = sym (ended_on marked c.args.piece.now s.start s.size s.times
          (holds_nothing c.args.piece.now) s.needed 0 c.next_copy-copy.result s.needed s.times
          s.start c.args.entered c.requires.size (omega arith) (omega arith) (omega arith) next);
    }

pub pass_copies-copies-preserved : goal.pass_copies-copies-preserved
pass_copies-copies-preserved t c =
    let s = c.args.copies.now in
    let marked = bit c.args.step.now.from.now in
    let next : IsNextCopy marked s.start s.size s.times (c.copies.copy + 1)
    c.next_copy-copy-in-copies.result c.pass_copy-entered.result =
    record {
      least = c.next_copy-copy-in-copies.ensures.least;
      most = c.next_copy-copy-in-copies.ensures.most;
      here = c.next_copy-copy-in-copies.ensures.here;
      none = λ e. record { none = c.next_copy-copy-in-copies.ensures.none e };
    } in
    let last : c.if-copies.is_last ≡ (s.is_endless && (c.copies.copy + 1 == s.times)) =
    elim c.if-copies.branch [
      | pass_copies-then-copies w ↦ rw w.if-copies.true w.is_last-is
      | pass_copies-else-copies w ↦ rw w.if-copies.false (w.is_last-is ∙ w.if-copies.false)
    ] in
    let whole : c.if-entered.ends ≡ (c.pass_copy-entered.result
    && ((s.needed - (c.copies.copy + 1) == 0) || holds_nothing c.args.piece.now)) =
    elim c.if-entered.branch [
      | pass_copies-then-entered w ↦ rw w.if-entered.true (w.ends-is ∙ w.is_end.ensures
          ∙ ap (λ v. (s.needed - (c.copies.copy + 1) == 0) || v)
          c.holds_nothing-holds_nothing.ensures)
      | pass_copies-else-entered w ↦ rw w.if-entered.false (w.ends-is ∙ w.if-entered.false)
    ] in
    record {
      words = c.pass_copy-entered.ensures.words ∙ c.copies.invariant.words;
      within = c.next_copy-copy-in-copies.ensures.most;
      bits = λ q l. moves_turned marked c.args.piece.now s.start s.size s.times
          c.args.step.now.entry q c.copies.copy c.next_copy-copy-in-copies.result s.is_endless
          c.copies.entered c.pass_copy-entered.result c.if-copies.is_last
          (bit c.copies.to q) (bit c.pass_copy-entered.new.to q) c.requires.size
          c.copies-test.true c.pass_copy-entered.ensures.ends last
          (c.pass_copy-entered.ensures.bits q (let e = c.copies.invariant.words in omega arith))
          next
          ∙ c.copies.invariant.bits q l;
      ends = ends_turned marked c.args.piece.now s.start s.size s.times
          (holds_nothing c.args.piece.now) s.needed c.copies.copy
          c.next_copy-copy-in-copies.result c.pass_copy-entered.result c.if-entered.ends
          c.copies.ends c.requires.size c.copies-test.true c.pass_copy-entered.ensures.ends
          whole next ∙ c.copies.invariant.ends;
    }

pub pass_copy-returns-clause-bits : goal.pass_copy-returns-clause-bits
pass_copy-returns-clause-bits t c = λ q l. c.pass.ensures.bits q l
    ∙ ap (λ v. bit c.args.to.now q || v)
    (entered_alike c.args.step.now.entry (bit c.args.step.now.from.now) q c.args.piece.now
    c.args.turn.start c.is_entered.result
    (c.args.turn.entered || (c.args.is_last
    && ends_marked (bit c.args.step.now.from.now) c.args.piece.now c.args.turn.start))
    c.is_entered.ensures)
