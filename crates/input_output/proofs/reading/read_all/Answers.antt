use Rattle.std.proofs.Common.{arith}
use Rattle.std.proofs.lemmas.Result.{err_from_is_err_and}
use Rattle.input_output.proofs.Known.{Consumes-then, Consumes-keeps, AtEnd-keeps}
use Rattle.input_output.proofs.reading.read_all.Goals as goal

pub returns-in_err-push-in-Got-clause-bytes : goal.returns-in_err-push-in-Got-clause-bytes
returns-in_err-push-in-Got-clause-bytes g c =
    let left = g.I.Source.left in
    let p = err_from_is_err_and c.from_residual-in_err-push-in-Got.result
    c.from_residual-in_err-push-in-Got.ensures.1 in
    rw (p.1, p.2) (
      _,
      Consumes-then (left c.args.source.now) (left c.pieces.source)
          (left c.read.new.self) c.pieces.bytes _ c.pieces.invariant.taken c.in-Got.ensures.took.2,
    )

pub returns-in-End-clause-bytes : goal.returns-in-End-clause-bytes
returns-in-End-clause-bytes g c =
    let left = g.I.Source.left in
    let took = c.in-End.ensures.took in (
      Consumes-keeps (left c.args.source.now) (left c.pieces.source) (left c.read.new.self)
          c.pieces.bytes c.pieces.invariant.taken took.1,
      AtEnd-keeps (left c.args.source.now) (left c.pieces.source) (left c.read.new.self)
          c.pieces.bytes c.pieces.invariant.taken took.0 took.1,
      omega arith,
    )
