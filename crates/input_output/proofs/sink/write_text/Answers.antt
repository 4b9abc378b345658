use Rattle.std.proofs.Common.{◌∙◌, subst}
use Rattle.input_output.specs.Sink.{AppendsFront}
use Rattle.input_output.proofs.FrontLemmas.{front_then, on_err_too, piece_then}
use Rattle.input_output.proofs.sink.write_text.Goals as goal

pub returns-in_err-write_all-clause-err : goal.returns-in_err-write_all-clause-err
returns-in_err-write_all-clause-err g c =
    let written = g.O.Sink.written in
    let pieces = c.pieces-pieces.result.now in
    let failed = rw (c.as_slice.ensures ∙ c.piece-item.is) at c.in_err-write_all.ensures.err in
    on_err_too c.from_residual.result
    (subst (λ t. AppendsFront (written c.args.out.now) (written c.write_all.new.out) t)
    c.pieces-pieces.ensures
    (front_then (written c.args.out.now) (written c.pieces.out) (written c.write_all.new.out)
    pieces c.pieces.piece-index c.piece-item.result c.pieces-test.true
    c.pieces.invariant.written failed))

pub pieces-preserved : goal.pieces-preserved
pieces-preserved g c =
    let written = g.O.Sink.written in
    let wrote = rw (c.as_slice.ensures ∙ c.piece-item.is) at c.in_ok-write_all.ensures.ok in
    record {
      written = piece_then (written c.args.out.now) (written c.pieces.out)
          (written c.write_all.new.out) c.pieces-pieces.result.now c.pieces.piece-index
          c.piece-item.result c.pieces-test.true c.pieces.invariant.written wrote;
      calm = c.in_ok-write_all.ensures.calm ∙ c.pieces.invariant.calm;
    }
