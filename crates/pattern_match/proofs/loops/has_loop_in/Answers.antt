use Rattle.std.proofs.Common.{◌+◌, ◌*◌, length, refl, arith, w64}
use Rattle.std.specs.Int.{trailing_zeros}
use Rattle.std.proofs.lemmas.Bool.Decides.{not_from_Decides}
use Rattle.std.proofs.lemmas.Nat.Bits.{bit_at-trailing_zeros}
use Rattle.pattern_match.specs.Loops.{EndsBeforeLoop}
use Rattle.pattern_match.proofs.WordBits.{common_bit, common_at}
use Rattle.pattern_match.proofs.LowestBits.{still_marked}
use Rattle.pattern_match.proofs.Sweeps.{lowest_row, among_others, none_left}
use Rattle.pattern_match.proofs.loops.has_loop_in.Goals as goal

pub states-init : goal.states-init
states-init c = record {
  shared = λ j l b. common_bit c.args.marks.now c.args.accept.now c.args.i j l b;
  unseen = λ j l h. common_at c.args.marks.now c.args.accept.now c.args.i j l h.marked h.last;
}

pub overflow_mul-state : goal.overflow_mul-state
overflow_mul-state c =
    let r = lowest_row c.states.left c.args.i (length c.args.accept.now) (length c.args.follow.now)
    (omega arith) (omega arith) (omega arith)
    (λ j l b. c.requires.rows _ (c.states.invariant.shared j l b).1) in
    omega arith

pub overflow_add-state : goal.overflow_add-state
overflow_add-state c =
    let r = lowest_row c.states.left c.args.i (length c.args.accept.now) (length c.args.follow.now)
    (omega arith) (omega arith) (omega arith)
    (λ j l b. c.requires.rows _ (c.states.invariant.shared j l b).1) in
    omega arith

pub overflow_mul-state-in-states : goal.overflow_mul-state-in-states
overflow_mul-state-in-states c =
    let r = lowest_row c.states.left c.args.i (length c.args.accept.now) (length c.args.follow.now)
    (omega arith) (omega arith) (omega arith)
    (λ j l b. c.requires.rows _ (c.states.invariant.shared j l b).1) in
    omega arith

pub leads_to_loop-requires-clause-row : goal.leads_to_loop-requires-clause-row
leads_to_loop-requires-clause-row c =
    let r = lowest_row c.states.left c.args.i (length c.args.accept.now) (length c.args.follow.now)
    (omega arith) (omega arith) (omega arith)
    (λ j l b. c.requires.rows _ (c.states.invariant.shared j l b).1) in
    r.row

pub returns-then-leads_to_loop : goal.returns-then-leads_to_loop
returns-then-leads_to_loop c =
    let t = bit_at-trailing_zeros w64 c.states.left (omega arith) (omega arith) in
    let m = c.states.invariant.shared (trailing_zeros w64 c.states.left) t.0 t.1 in (
      λ _. (
        trailing_zeros w64 c.states.left,
        t.0,
        record {
          marked = m.0;
          last = m.1;
          leads = c.leads_to_loop.ensures.0
              c.if-leads_to_loop.true;
        },
      ),
      λ _. refl,
    )

pub states-preserved : goal.states-preserved
states-preserved c = record {
  shared = λ j l b. c.states.invariant.shared j l
      (still_marked c.states.left j (omega arith) (omega arith) b);
  unseen = among_others (λ j. EndsBeforeLoop c.args.marks.now c.args.accept.now c.args.follow.now
      c.args.classes.now (64 * c.args.i + j)) c.states.left (omega arith) (omega arith)
      (λ h. not_from_Decides c.leads_to_loop.result c.leads_to_loop.ensures c.if-leads_to_loop.false
      h.leads) c.states.invariant.unseen;
}

pub returns : goal.returns
returns c = (
  λ e. cc,
  λ h. absurd (none_left (λ j. EndsBeforeLoop c.args.marks.now c.args.accept.now c.args.follow.now
      c.args.classes.now (64 * c.args.i + j)) c.states.left (omega arith) c.states.invariant.unseen
      h.0 h.1 h.2),
)
