use Rattle.std.proofs.Common.{arith, refl, ◌∙◌, ap, sym}
use Rattle.std.specs.Prelude.{Ok}
use Rattle.pattern_syntax.specs.Tree.{Tree}
use Rattle.pattern_syntax.specs.PatternValue.{tree_read}
use Rattle.pattern_syntax.proofs.KeptLemmas.{kept, kept_there, text_there, read_tree, start_short}
use Rattle.pattern_syntax.proofs.PlainLemmas.{plain_read, below_read}
use Rattle.pattern_syntax.proofs.pattern.Pattern.read.Goals as goal

pub invariant_of-result : goal.invariant_of-result
invariant_of-result c =
    kept_there c.in_ok-kept.kept.items c.args.bytes.now c.in_ok-start.start _
    c.in_ok-kept.is_behind c.is_empty.result c.len.ensures
    (rw c.as_slice.ensures at c.in_ok-kept.ensures.both)
    (rw c.as_slice.ensures at c.in_ok-kept.ensures.end)
    (kept c.args.bytes.now c.in_ok-start.start c.in_ok-start.rest.items _ c.is_empty.result
    c.requires c.in_ok-start.ensures.0 c.in_ok-start.ensures.1 (omega arith) c.is_empty.ensures)

pub returns-clause-read : goal.returns-clause-read
returns-clause-read c = c.in_ok-start.ensures.0 ∙ ap (λ (t : Tree). Ok t)
    (sym (ap tree_read (text_there c.in_ok-kept.kept.items c.args.bytes.now c.in_ok-start.start _
    c.in_ok-kept.is_behind c.len.ensures
    (rw c.as_slice.ensures at c.in_ok-kept.ensures.both)
    (rw c.as_slice.ensures at c.in_ok-kept.ensures.end))
    ∙ read_tree c.args.bytes.now _ c.in_ok-start.ensures.0))

pub overflow_cast-result : goal.overflow_cast-result
overflow_cast-result c =
    let n = start_short c.args.bytes.now c.in_ok-start.start c.in_ok-start.rest.items
    c.in_ok-start.ensures.0 c.in_ok-start.ensures.1 in
    omega (arith, n, c.len.ensures)

pub begun-requires-clause-read : goal.begun-requires-clause-read
begun-requires-clause-read c = plain_read c.args.bytes.now _ refl c.requires
    (c.is_run_alone.ensures c.if-is_run_alone.true)

pub begun-requires-then-has_all_below-clause-read
    : goal.begun-requires-then-has_all_below-clause-read
begun-requires-then-has_all_below-clause-read c = below_read c.args.bytes.now _ c.requires
    (c.has_all_below.ensures c.if-has_all_below.true)
