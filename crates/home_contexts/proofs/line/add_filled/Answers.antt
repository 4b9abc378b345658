use Rattle.home_contexts.proofs.Runs.{text_more}
use Rattle.home_contexts.proofs.line.add_filled.Goals as goal

pub pieces-preserved : goal.pieces-preserved
pieces-preserved c =
    text_more c.args.in_pattern c.args.user.now c.pieces.left.now c.in-Some.rest.now
    c.plain_run.result.0.now c.plain_run.result.1.now c.pieces.to c.write_piece.new.to
    c.push.new.self _ c.in-Some.piece c.in-Some.ensures.found c.plain_run.ensures.pieces
    c.in_ok-write_piece.ensures c.in_ok-push.ensures.ok c.pieces.invariant
