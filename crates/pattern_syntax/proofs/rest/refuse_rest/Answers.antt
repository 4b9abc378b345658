use Rattle.std.proofs.Common.{arith, ◌∙◌, length}
use Rattle.std.proofs.lemmas.List.{length-drop}
use Rattle.pattern_syntax.proofs.FaultLemmas.{stays_shallow}
use Rattle.pattern_syntax.specs.PatternCause.{pattern_cause}
use Rattle.pattern_syntax.specs.Views.{token_of}
use Rattle.pattern_syntax.proofs.RestLemmas.{refused_cause, structure_cause, end_cause, open_cause}
use Rattle.pattern_syntax.proofs.RestLemmas.{whole_cause, fault_later}
use Rattle.pattern_syntax.proofs.rest.refuse_rest.Goals as goal

pub returns-in-Err : goal.returns-in-Err
returns-in-Err c = refused_cause (pattern_cause c.in-Err.fault) _ (length c.args.bytes.now)
    c.tokens.depth c.tokens.after_piece c.tokens.at c.args.bytes.now (omega arith)
    c.in-Err.ensures.causes c.in-Err.ensures.value c.tokens.invariant.rest

pub returns-in-Some : goal.returns-in-Some
returns-in-Some c =
    structure_cause (pattern_cause c.in-Some.fault) _ (length c.args.bytes.now) c.tokens.depth
    c.tokens.after_piece c.tokens.at c.args.bytes.now (token_of c.in-Ok.cut.0) c.in-Ok.cut.1
    (omega arith) c.in-Ok.ensures.value c.in-Ok.ensures.within.0
    c.in-Some.ensures.1 c.in-Some.ensures.0 c.tokens.invariant.rest

pub tokens-preserved : goal.tokens-preserved
tokens-preserved c =
    let w = c.in-Ok.ensures.within.1 in
    let fine = c.in_default.ensures in
    let deep = stays_shallow c.tokens.depth c.tokens.after_piece c.tokens.at
    (token_of c.in-Ok.cut.0) c.tokens.invariant.shallow fine in
    record {
      within = omega (arith, w, length-drop c.tokens.at c.args.bytes.now);
      shallow = rw c.depth_after-depth.ensures deep;
      rest = c.tokens.invariant.rest
          ∙ (rw (c.depth_after-depth.ensures, c.is_piece_end-after_piece.ensures)
          (fault_later (length c.args.bytes.now) c.tokens.depth c.tokens.after_piece c.tokens.at
          c.args.bytes.now (token_of c.in-Ok.cut.0) c.in-Ok.cut.1 (omega arith)
          c.in-Ok.ensures.value c.in-Ok.ensures.within.0 fine));
    }

pub returns-then-depth-gt0 : goal.returns-then-depth-gt0
returns-then-depth-gt0 c =
    let e = end_cause _ (length c.args.bytes.now) c.tokens.depth c.tokens.after_piece c.tokens.at
    c.args.bytes.now (omega arith) c.tokens.invariant.rest in
    open_cause _ (length c.args.bytes.now) c.tokens.at c.tokens.depth e (omega arith) (omega arith)

pub returns : goal.returns
returns c =
    let e = end_cause _ (length c.args.bytes.now) c.tokens.depth c.tokens.after_piece c.tokens.at
    c.args.bytes.now (omega arith) c.tokens.invariant.rest in
    whole_cause _ (length c.args.bytes.now) c.tokens.depth e (omega arith)
