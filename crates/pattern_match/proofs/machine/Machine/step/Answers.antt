use Rattle.std.proofs.Common.{◌≡◌, ◌∙◌, ap, arith, length, List, ℕ, false}
use Rattle.pattern_match.proofs.RunOperations.{have_bits, step_over}
use Rattle.pattern_match.proofs.RunTables.{marked_in, room, step_at}
use Rattle.pattern_match.proofs.Ready.{ready_by, by_operations, by_rows, some_marks, step_made}
use Rattle.pattern_match.proofs.Ready.{step_behind}
use Rattle.pattern_match.proofs.machine.Machine.step.Goals as goal

pub step_over-requires : goal.step_over-requires
step_over-requires c =
    let r = ready_by c.self.inside c.args.self.now c.self.view_is c.self.invariant in
    let o = by_operations c.args.self.now c.self.inside.tables.now r
    c.as_slice-operations.result.now c.as_slice-operations.ensures.value c.is_empty.result
    c.is_empty.ensures c.if-not-is_empty.true in
    let a = some_marks c.args.self.now c.args.marks.now.marks c.requires.some c.requires.made in
    have_bits c.args.self.now c.as_slice-operations.result.now o c.args.marks.now.marks a

pub returns-then-not-is_empty-clause-made : goal.returns-then-not-is_empty-clause-made
returns-then-not-is_empty-clause-made c =
    let r = ready_by c.self.inside c.args.self.now c.self.view_is c.self.invariant in
    let o = by_operations c.args.self.now c.self.inside.tables.now r
    c.as_slice-operations.result.now c.as_slice-operations.ensures.value c.is_empty.result
    c.is_empty.ensures c.if-not-is_empty.true in
    step_made c.args.self.now c.args.marks.now.marks c.step_over.new.self.marks c.args.byte
    c.requires.some c.requires.made c.step_over.ensures.words
    (step_over c.args.self.now c.as_slice-operations.result.now o c.args.marks.now.marks
    c.step_over.new.self.marks c.args.byte c.step_over.ensures.bits)

pub returns-then-not-is_empty-clause-behind : goal.returns-then-not-is_empty-clause-behind
returns-then-not-is_empty-clause-behind c =
    let r = ready_by c.self.inside c.args.self.now c.self.view_is c.self.invariant in
    let o = by_operations c.args.self.now c.self.inside.tables.now r
    c.as_slice-operations.result.now c.as_slice-operations.ensures.value c.is_empty.result
    c.is_empty.ensures c.if-not-is_empty.true in
    step_behind c.args.self.now c.args.marks.now.marks c.step_over.new.self.marks c.args.byte
    c.requires.some
    (step_over c.args.self.now c.as_slice-operations.result.now o c.args.marks.now.marks
    c.step_over.new.self.marks c.args.byte c.step_over.ensures.bits)

pub step-requires-clause-rows : goal.step-requires-clause-rows
step-requires-clause-rows c =
    let r = ready_by c.self.inside c.args.self.now c.self.view_is c.self.invariant in
    let e : c.self.inside.tables.now.is_bare ≡ false = r.bare_is ∙ c.requires.some in
    let m = by_rows c.args.self.now c.self.inside.tables.now r e
    c.as_slice-operations.result.now c.as_slice-operations.ensures.value c.is_empty.result
    c.is_empty.ensures c.if-not-is_empty.false in
    let a = some_marks c.args.self.now c.args.marks.now.marks c.requires.some c.requires.made in
    let n : length c.as_slice.result.now ≡ length c.self.inside.tables.now.follow.items =
    ap (λ (w : List ℕ). length w) c.as_slice.ensures.value in
    λ p h. rw n (marked_in c.args.self.now c.self.inside.tables.now m c.args.marks.now.marks a p h)

pub step-requires-clause-room : goal.step-requires-clause-room
step-requires-clause-room c =
    let r = ready_by c.self.inside c.args.self.now c.self.view_is c.self.invariant in
    let e : c.self.inside.tables.now.is_bare ≡ false = r.bare_is ∙ c.requires.some in
    let m = by_rows c.args.self.now c.self.inside.tables.now r e
    c.as_slice-operations.result.now c.as_slice-operations.ensures.value c.is_empty.result
    c.is_empty.ensures c.if-not-is_empty.false in
    let a = some_marks c.args.self.now c.args.marks.now.marks c.requires.some c.requires.made in
    let n : length c.as_slice-2.result.now ≡ length c.self.inside.tables.now.classes.items =
    ap length c.as_slice-2.ensures.value in
    rw n (room c.args.self.now c.self.inside.tables.now m c.args.marks.now.marks a)

pub returns-clause-made : goal.returns-clause-made
returns-clause-made c =
    let r = ready_by c.self.inside c.args.self.now c.self.view_is c.self.invariant in
    let e : c.self.inside.tables.now.is_bare ≡ false = r.bare_is ∙ c.requires.some in
    let m = by_rows c.args.self.now c.self.inside.tables.now r e
    c.as_slice-operations.result.now c.as_slice-operations.ensures.value c.is_empty.result
    c.is_empty.ensures c.if-not-is_empty.false in
    let a = some_marks c.args.self.now c.args.marks.now.marks c.requires.some c.requires.made in
    step_made c.args.self.now c.args.marks.now.marks c.step.new.self.marks c.args.byte
    c.requires.some c.requires.made c.step.ensures.words
    (step_at c.args.self.now c.self.inside.tables.now m c.args.marks.now.marks c.step.new.self.marks
    c.as_slice.result.now c.as_slice-2.result.now c.args.byte c.as_slice.ensures.value
    c.as_slice-2.ensures.value (omega arith) a c.step.ensures.words c.step.ensures.bits)

pub returns-clause-behind : goal.returns-clause-behind
returns-clause-behind c =
    let r = ready_by c.self.inside c.args.self.now c.self.view_is c.self.invariant in
    let e : c.self.inside.tables.now.is_bare ≡ false = r.bare_is ∙ c.requires.some in
    let m = by_rows c.args.self.now c.self.inside.tables.now r e
    c.as_slice-operations.result.now c.as_slice-operations.ensures.value c.is_empty.result
    c.is_empty.ensures c.if-not-is_empty.false in
    let a = some_marks c.args.self.now c.args.marks.now.marks c.requires.some c.requires.made in
    step_behind c.args.self.now c.args.marks.now.marks c.step.new.self.marks c.args.byte
    c.requires.some
    (step_at c.args.self.now c.self.inside.tables.now m c.args.marks.now.marks c.step.new.self.marks
    c.as_slice.result.now c.as_slice-2.result.now c.args.byte c.as_slice.ensures.value
    c.as_slice-2.ensures.value (omega arith) a c.step.ensures.words c.step.ensures.bits)
