use Rattle.std.proofs.Common.{arith}
use Rattle.home_contexts.proofs.Measured.{filled_none}
use Rattle.home_contexts.proofs.Runs.{length_more}
use Rattle.home_contexts.proofs.line.with_filled.Goals as goal

pub pieces-preserved : goal.pieces-preserved
pieces-preserved c =
    let more = length_more c.args.in_pattern c.args.user.now c.pieces.left.now c.in-Some.rest.now
    c.plain_run.result.0.now c.plain_run.result.1.now c.in-Some.piece c.in-Some.ensures.found
    c.plain_run.ensures.pieces in
    omega (arith, c.pieces.invariant, c.with_piece.ensures, c.capped-length.ensures, more)

pub returns : goal.returns
returns c =
    let none = filled_none c.args.in_pattern c.args.user.now c.pieces.left.now
    c.in_default.ensures.none in
    omega (arith, c.capped.ensures, c.pieces.invariant, none)
