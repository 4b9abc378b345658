use Rattle.std.proofs.Common.{arith, ◌∙◌, refl, length, ap, sym}
use Rattle.std.specs.Prelude.{Ok}
use Rattle.std.proofs.lemmas.Result.{err_from_is_err_and}
use Rattle.pattern_syntax.specs.Tree.{Tree}
use Rattle.pattern_syntax.specs.Reading.{new_reading, pattern_of}
use Rattle.pattern_syntax.specs.PatternCause.{pattern_cause}
use Rattle.pattern_syntax.proofs.BuildingLemmas.{all_read, end_explained}
use Rattle.pattern_syntax.proofs.RestLemmas.{rest_refused}
use Rattle.pattern_syntax.proofs.pattern.start_and_rest.Goals as goal

pub tokens-init : goal.tokens-init
unfolding pattern_of
tokens-init c = (new_reading, c.in_ok-builder.ensures, omega arith, refl)

pub returns-in_err-at : goal.returns-in_err-at
returns-in_err-at c =
    let i = c.tokens.invariant in
    let p = err_from_is_err_and c.from_residual-in_err-at.result
    c.from_residual-in_err-at.ensures.1 in
    rw (p.1, p.2)
    (end_explained (pattern_cause c.in_err-at.field-0.0) (pattern_of c.args.bytes.now) _ i.3
    (c.in_err-at.ensures i.0 i.1))

pub tokens-preserved : goal.tokens-preserved
tokens-preserved c =
    let i = c.tokens.invariant in
    let r = c.in_ok-at.ensures in
    let more = r.2 i.0 i.1 in
    (more.0, more.1, r.1, i.3 ∙ more.2)

pub returns-then-is_full : goal.returns-then-is_full
returns-then-is_full c =
    let i = c.tokens.invariant in
    let f = (c.is_full.ensures i.0 i.1).0 c.if-is_full.true in
    rw c.refuse_rest.ensures (rest_refused (pattern_of c.args.bytes.now) (length c.args.bytes.now)
    i.0 c.is_after_piece.result _ i.3 f.0 (c.is_after_piece.ensures i.0 i.1) f.1)

pub returns-in_err-start : goal.returns-in_err-start
returns-in_err-start c =
    let i = c.tokens.invariant in
    let p = err_from_is_err_and c.from_residual-in_err-start.result
    c.from_residual-in_err-start.ensures.1 in
    rw (p.1, p.2)
    (end_explained (pattern_cause c.in_err-start.field-0.0) (pattern_of c.args.bytes.now) _
    (all_read (pattern_of c.args.bytes.now) i.0 c.tokens.at c.args.bytes.now (omega arith) i.3)
    (c.in_err-start.ensures i.0 i.1))

pub returns : goal.returns
returns c =
    let i = c.tokens.invariant in
    let parts = c.in_ok-parted.ensures in (
      all_read (pattern_of c.args.bytes.now) i.0 c.tokens.at c.args.bytes.now (omega arith) i.3
          ∙ (c.in_ok-start.ensures i.0 i.1).0
          ∙ ap (λ (t : Tree). Ok t) (sym parts.1),
      parts.0,
    )
