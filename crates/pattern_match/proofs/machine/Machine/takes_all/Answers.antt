use Rattle.std.proofs.Common.{◌≡◌, ◌∙◌, sym, false}
use Rattle.std.proofs.lemmas.Bool.Decides.{Decides-like}
use Rattle.pattern_match.specs.States.{is_bare}
use Rattle.pattern_match.proofs.RunOperations.{have_bits, loops_over}
use Rattle.pattern_match.proofs.RunTables.{accept_at, ended_rows_at, loops_at}
use Rattle.pattern_match.proofs.Ready.{ready_by, by_operations, by_rows, some_marks, bare_unmarked}
use Rattle.pattern_match.proofs.Ready.{all_behind}
use Rattle.pattern_match.proofs.machine.Machine.takes_all.Goals as goal

pub has_loop_over-requires : goal.has_loop_over-requires
has_loop_over-requires c =
    let r = ready_by c.self.inside c.args.self.now c.self.view_is c.self.invariant in
    let o = by_operations c.args.self.now c.self.inside.tables.now r
    c.as_slice-operations.result.now c.as_slice-operations.ensures.value c.is_empty.result
    c.is_empty.ensures c.if-not-is_empty.true in
    let b : is_bare c.args.self.now ≡ false = sym r.bare_is ∙ c.if-tables.false in
    let a = some_marks c.args.self.now c.args.marks.now.marks b c.requires in
    have_bits c.args.self.now c.as_slice-operations.result.now o c.args.marks.now.marks a

pub returns-then-not-is_empty-clause-exact : goal.returns-then-not-is_empty-clause-exact
returns-then-not-is_empty-clause-exact c =
    let r = ready_by c.self.inside c.args.self.now c.self.view_is c.self.invariant in
    let o = by_operations c.args.self.now c.self.inside.tables.now r
    c.as_slice-operations.result.now c.as_slice-operations.ensures.value c.is_empty.result
    c.is_empty.ensures c.if-not-is_empty.true in
    let l = loops_over c.args.self.now c.as_slice-operations.result.now o c.args.marks.now.marks in
    Decides-like c.has_loop_over.result l.0 l.1 c.has_loop_over.ensures.value

pub returns-then-not-is_empty-clause-texts : goal.returns-then-not-is_empty-clause-texts
returns-then-not-is_empty-clause-texts c =
    let r = ready_by c.self.inside c.args.self.now c.self.view_is c.self.invariant in
    let o = by_operations c.args.self.now c.self.inside.tables.now r
    c.as_slice-operations.result.now c.as_slice-operations.ensures.value c.is_empty.result
    c.is_empty.ensures c.if-not-is_empty.true in
    let b : is_bare c.args.self.now ≡ false = sym r.bare_is ∙ c.if-tables.false in
    let l = loops_over c.args.self.now c.as_slice-operations.result.now o c.args.marks.now.marks in
    λ h. all_behind c.args.self.now c.args.marks.now.marks b
    (l.0 (c.has_loop_over.ensures.value.0 h))

pub has_loop-requires-clause-accept : goal.has_loop-requires-clause-accept
has_loop-requires-clause-accept c =
    let r = ready_by c.self.inside c.args.self.now c.self.view_is c.self.invariant in
    let m = by_rows c.args.self.now c.self.inside.tables.now r c.if-tables.false
    c.as_slice-operations.result.now c.as_slice-operations.ensures.value c.is_empty.result
    c.is_empty.ensures c.if-not-is_empty.false in
    let b : is_bare c.args.self.now ≡ false = sym r.bare_is ∙ c.if-tables.false in
    let a = some_marks c.args.self.now c.args.marks.now.marks b c.requires in
    accept_at c.args.self.now c.self.inside.tables.now m c.args.marks.now.marks
    c.as_slice.result.now c.as_slice-2.result.now c.as_slice.ensures c.as_slice-2.ensures.value
    a

pub has_loop-requires-clause-rows : goal.has_loop-requires-clause-rows
has_loop-requires-clause-rows c =
    let r = ready_by c.self.inside c.args.self.now c.self.view_is c.self.invariant in
    let m = by_rows c.args.self.now c.self.inside.tables.now r c.if-tables.false
    c.as_slice-operations.result.now c.as_slice-operations.ensures.value c.is_empty.result
    c.is_empty.ensures c.if-not-is_empty.false in
    ended_rows_at c.args.self.now c.self.inside.tables.now m c.as_slice-2.result.now
    c.as_slice-3.result.now c.as_slice-2.ensures.value c.as_slice-3.ensures.value

pub returns-then-tables-clause-exact : goal.returns-then-tables-clause-exact
returns-then-tables-clause-exact c =
    let r = ready_by c.self.inside c.args.self.now c.self.view_is c.self.invariant in (
      λ e. cc,
      λ h. absurd
          (bare_unmarked c.args.self.now c.args.marks.now.marks (sym r.bare_is ∙ c.if-tables.true)
          c.requires
          h.place h.marked),
    )

pub returns-clause-exact : goal.returns-clause-exact
returns-clause-exact c =
    let r = ready_by c.self.inside c.args.self.now c.self.view_is c.self.invariant in
    let m = by_rows c.args.self.now c.self.inside.tables.now r c.if-tables.false
    c.as_slice-operations.result.now c.as_slice-operations.ensures.value c.is_empty.result
    c.is_empty.ensures c.if-not-is_empty.false in
    let l = loops_at c.args.self.now c.self.inside.tables.now m c.args.marks.now.marks
    c.as_slice.result.now c.as_slice-2.result.now c.as_slice-3.result.now c.as_slice-4.result.now
    c.as_slice.ensures c.as_slice-2.ensures.value c.as_slice-3.ensures.value
    c.as_slice-4.ensures.value in
    Decides-like c.has_loop.result l.0 l.1 c.has_loop.ensures

pub returns-clause-texts : goal.returns-clause-texts
returns-clause-texts c =
    let r = ready_by c.self.inside c.args.self.now c.self.view_is c.self.invariant in
    let m = by_rows c.args.self.now c.self.inside.tables.now r c.if-tables.false
    c.as_slice-operations.result.now c.as_slice-operations.ensures.value c.is_empty.result
    c.is_empty.ensures c.if-not-is_empty.false in
    let b : is_bare c.args.self.now ≡ false = sym r.bare_is ∙ c.if-tables.false in
    let l = loops_at c.args.self.now c.self.inside.tables.now m c.args.marks.now.marks
    c.as_slice.result.now c.as_slice-2.result.now c.as_slice-3.result.now c.as_slice-4.result.now
    c.as_slice.ensures c.as_slice-2.ensures.value c.as_slice-3.ensures.value
    c.as_slice-4.ensures.value in
    λ h. all_behind c.args.self.now c.args.marks.now.marks b (l.0 (c.has_loop.ensures.0 h))
