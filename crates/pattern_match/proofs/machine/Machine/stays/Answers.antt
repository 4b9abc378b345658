use Rattle.std.proofs.Common.{◌≡◌, ◌∙◌, sym, false}
use Rattle.std.proofs.lemmas.Bool.Decides.{Decides-like}
use Rattle.pattern_match.specs.Automaton.{automaton, all_places}
use Rattle.pattern_match.specs.States.{is_bare}
use Rattle.pattern_match.proofs.Onwards.{steady_step}
use Rattle.pattern_match.proofs.RunOperations.{have_bits, steady_over}
use Rattle.pattern_match.proofs.RunTables.{rows_at, steady_at}
use Rattle.pattern_match.proofs.Ready.{ready_by, by_operations, by_rows, some_marks, step_behind}
use Rattle.pattern_match.proofs.machine.Machine.stays.Goals as goal

pub are_steady_over-requires : goal.are_steady_over-requires
are_steady_over-requires c =
    let r = ready_by c.self.inside c.args.self.now c.self.view_is c.self.invariant in
    let o = by_operations c.args.self.now c.self.inside.tables.now r
    c.as_slice-operations.result.now c.as_slice-operations.ensures.value c.is_empty.result
    c.is_empty.ensures c.if-not-is_empty.true in
    let b : is_bare c.args.self.now ≡ false = sym r.bare_is ∙ c.if-tables.false in
    let a = some_marks c.args.self.now c.args.marks.now.marks b c.requires in
    have_bits c.args.self.now c.as_slice-operations.result.now o c.args.marks.now.marks a

pub returns-then-not-is_empty-clause-exact : goal.returns-then-not-is_empty-clause-exact
returns-then-not-is_empty-clause-exact c =
    let r = ready_by c.self.inside c.args.self.now c.self.view_is c.self.invariant in
    let o = by_operations c.args.self.now c.self.inside.tables.now r
    c.as_slice-operations.result.now c.as_slice-operations.ensures.value c.is_empty.result
    c.is_empty.ensures c.if-not-is_empty.true in
    let b : is_bare c.args.self.now ≡ false = sym r.bare_is ∙ c.if-tables.false in
    let l = steady_over c.args.self.now c.as_slice-operations.result.now o c.args.marks.now.marks b
    in
    Decides-like c.are_steady_over.result l.0 l.1 c.are_steady_over.ensures.value

pub returns-then-not-is_empty-clause-bytes : goal.returns-then-not-is_empty-clause-bytes
returns-then-not-is_empty-clause-bytes c =
    let r = ready_by c.self.inside c.args.self.now c.self.view_is c.self.invariant in
    let o = by_operations c.args.self.now c.self.inside.tables.now r
    c.as_slice-operations.result.now c.as_slice-operations.ensures.value c.is_empty.result
    c.is_empty.ensures c.if-not-is_empty.true in
    let b : is_bare c.args.self.now ≡ false = sym r.bare_is ∙ c.if-tables.false in
    let l = steady_over c.args.self.now c.as_slice-operations.result.now o c.args.marks.now.marks b
    in
    λ h byte p u. step_behind c.args.self.now c.args.marks.now.marks c.args.marks.now.marks byte b
    (steady_step (all_places (automaton c.args.self.now)) c.args.marks.now.marks byte p u
    (l.0 (c.are_steady_over.ensures.value.0 h)).each)

pub are_steady-requires : goal.are_steady-requires
are_steady-requires c =
    let r = ready_by c.self.inside c.args.self.now c.self.view_is c.self.invariant in
    let m = by_rows c.args.self.now c.self.inside.tables.now r c.if-tables.false
    c.as_slice-operations.result.now c.as_slice-operations.ensures.value c.is_empty.result
    c.is_empty.ensures c.if-not-is_empty.false in
    let b : is_bare c.args.self.now ≡ false = sym r.bare_is ∙ c.if-tables.false in
    let a = some_marks c.args.self.now c.args.marks.now.marks b c.requires in
    rows_at c.args.self.now c.self.inside.tables.now m c.args.marks.now.marks
    c.as_slice.result.now c.as_slice-2.result.now c.as_slice.ensures c.as_slice-2.ensures.value
    a

pub returns-clause-exact : goal.returns-clause-exact
returns-clause-exact c =
    let r = ready_by c.self.inside c.args.self.now c.self.view_is c.self.invariant in
    let m = by_rows c.args.self.now c.self.inside.tables.now r c.if-tables.false
    c.as_slice-operations.result.now c.as_slice-operations.ensures.value c.is_empty.result
    c.is_empty.ensures c.if-not-is_empty.false in
    let b : is_bare c.args.self.now ≡ false = sym r.bare_is ∙ c.if-tables.false in
    let a = some_marks c.args.self.now c.args.marks.now.marks b c.requires in
    let l = steady_at c.args.self.now c.self.inside.tables.now m c.args.marks.now.marks
    c.as_slice.result.now c.as_slice-2.result.now c.as_slice-3.result.now c.as_slice.ensures
    c.as_slice-2.ensures.value c.as_slice-3.ensures.value b a in
    Decides-like c.are_steady.result l.0 l.1 c.are_steady.ensures

pub returns-clause-bytes : goal.returns-clause-bytes
returns-clause-bytes c =
    let r = ready_by c.self.inside c.args.self.now c.self.view_is c.self.invariant in
    let m = by_rows c.args.self.now c.self.inside.tables.now r c.if-tables.false
    c.as_slice-operations.result.now c.as_slice-operations.ensures.value c.is_empty.result
    c.is_empty.ensures c.if-not-is_empty.false in
    let b : is_bare c.args.self.now ≡ false = sym r.bare_is ∙ c.if-tables.false in
    let a = some_marks c.args.self.now c.args.marks.now.marks b c.requires in
    let l = steady_at c.args.self.now c.self.inside.tables.now m c.args.marks.now.marks
    c.as_slice.result.now c.as_slice-2.result.now c.as_slice-3.result.now c.as_slice.ensures
    c.as_slice-2.ensures.value c.as_slice-3.ensures.value b a in
    λ h byte p u. step_behind c.args.self.now c.args.marks.now.marks c.args.marks.now.marks byte b
    (steady_step (all_places (automaton c.args.self.now)) c.args.marks.now.marks byte p u
    (l.0 (c.are_steady.ensures.0 h)).each)
