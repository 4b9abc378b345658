use Rattle.std.proofs.Common.{◌≡◌, ◌∙◌, ap, subst, sym, List, ℕ, length, false}
use Rattle.pattern_match.specs.Over.{HaveBits, ends_among, operation_places}
use Rattle.pattern_match.specs.States.{is_bare}
use Rattle.pattern_match.proofs.RunOperations.{end_over, have_bits}
use Rattle.pattern_match.proofs.RunTables.{accept_in, end_at}
use Rattle.pattern_match.proofs.Ready.{ready_by, by_operations, by_rows, some_marks, end_behind}
use Rattle.pattern_match.proofs.Ready.{bare_ends}
use Rattle.pattern_match.proofs.machine.Machine.accepts.Goals as goal

pub returns-then-tables : goal.returns-then-tables
returns-then-tables c =
    let r = ready_by c.self.inside c.args.self.now c.self.view_is c.self.invariant in
    bare_ends c.args.self.now c.args.marks.now.marks (sym r.bare_is ∙ c.if-tables.true)

pub ends_over-requires : goal.ends_over-requires
ends_over-requires c =
    let r = ready_by c.self.inside c.args.self.now c.self.view_is c.self.invariant in
    let o = by_operations c.args.self.now c.self.inside.tables.now r
    c.as_slice-operations.result.now c.as_slice-operations.ensures.value c.is_empty.result
    c.is_empty.ensures c.if-not-is_empty.true in
    let b : is_bare c.args.self.now ≡ false = sym r.bare_is ∙ c.if-tables.false in
    let a = some_marks c.args.self.now c.args.marks.now.marks b c.requires in
    subst (λ (w : List ℕ). HaveBits c.as_slice-operations.result.now (length w))
    (sym c.as_slice.ensures)
    (have_bits c.args.self.now c.as_slice-operations.result.now o c.args.marks.now.marks a)

pub returns-then-not-is_empty : goal.returns-then-not-is_empty
returns-then-not-is_empty c =
    let r = ready_by c.self.inside c.args.self.now c.self.view_is c.self.invariant in
    let o = by_operations c.args.self.now c.self.inside.tables.now r
    c.as_slice-operations.result.now c.as_slice-operations.ensures.value c.is_empty.result
    c.is_empty.ensures c.if-not-is_empty.true in
    let b : is_bare c.args.self.now ≡ false = sym r.bare_is ∙ c.if-tables.false in
    end_behind c.args.self.now c.args.marks.now.marks c.ends_over.result b
    (end_over c.args.self.now c.as_slice-operations.result.now o c.args.marks.now.marks
    c.ends_over.result
    (c.ends_over.ensures ∙ ap (ends_among (operation_places c.as_slice-operations.result.now))
    c.as_slice.ensures))

pub have_common-requires : goal.have_common-requires
have_common-requires c =
    let r = ready_by c.self.inside c.args.self.now c.self.view_is c.self.invariant in
    let m = by_rows c.args.self.now c.self.inside.tables.now r c.if-tables.false
    c.as_slice-operations.result.now c.as_slice-operations.ensures.value c.is_empty.result
    c.is_empty.ensures c.if-not-is_empty.false in
    let b : is_bare c.args.self.now ≡ false = sym r.bare_is ∙ c.if-tables.false in
    let a = some_marks c.args.self.now c.args.marks.now.marks b c.requires in
    ap (λ (w : List ℕ). length w) c.as_slice-2.ensures
    ∙ accept_in c.args.self.now c.self.inside.tables.now m c.args.marks.now.marks a
    ∙ sym (ap (λ (w : List ℕ). length w) c.as_slice-3.ensures.value)

pub returns : goal.returns
returns c =
    let r = ready_by c.self.inside c.args.self.now c.self.view_is c.self.invariant in
    let m = by_rows c.args.self.now c.self.inside.tables.now r c.if-tables.false
    c.as_slice-operations.result.now c.as_slice-operations.ensures.value c.is_empty.result
    c.is_empty.ensures c.if-not-is_empty.false in
    let b : is_bare c.args.self.now ≡ false = sym r.bare_is ∙ c.if-tables.false in
    let a = some_marks c.args.self.now c.args.marks.now.marks b c.requires in
    end_behind c.args.self.now c.args.marks.now.marks c.have_common.result b
    (end_at c.args.self.now c.self.inside.tables.now m c.args.marks.now.marks
    c.as_slice-2.result.now c.as_slice-3.result.now c.have_common.result c.as_slice-2.ensures
    c.as_slice-3.ensures.value a c.have_common.ensures.onto c.have_common.ensures.from)
