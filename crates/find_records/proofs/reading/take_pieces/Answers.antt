use Rattle.std.proofs.Common.{◌+◌, ◌≤◌, ◌∙◌, arith, rules, length, take, length-append}
use Rattle.std.proofs.lemmas.Result.{err_from_is_err_and}
use Rattle.std.proofs.lemmas.List.{length-take, length-drop}
use Rattle.input_output.proofs.Known.{Consumes-then, Consumes-keeps}
use Rattle.find_records.proofs.Taking.{counts_end, taken_more, taken_nothing, shown_end}
use Rattle.find_records.proofs.Taking.{shown_fault}
use Rattle.find_records.proofs.Taking.{shown_long, shown_want, of_end}
use Rattle.find_records.proofs.reading.take_pieces.Goals as goal

pub pieces-init : goal.pieces-init
pieces-init g c = record {
  taken = taken_nothing c.args.format (g.I.Source.left c.args.source.now) c.args.limits.records
      c.args.so_far.now c.requires.nothing;
  count = λ i. g.I.Source.faults c.args.source.now;
  sound = c.requires.sound;
  most = c.requires.most;
  small = omega arith;
  room = c.requires.room;
}

pub returns-in_err-take-in-Got-clause-fault : goal.returns-in_err-take-in-Got-clause-fault
returns-in_err-take-in-Got-clause-fault g c =
    let left = g.I.Source.left in
    let so_far = c.pieces.invariant.taken in
    let p = err_from_is_err_and c.from_residual.result c.from_residual.ensures.1 in
    let small : c.pieces.taken + c.in-Got.count ≤ c.args.limits.bytes + 1 = search rules in
    let size : length (take c.in-Got.count c.read.new.buf) ≤ c.in-Got.count =
    omega (arith, length-take c.in-Got.count c.read.new.buf) in
    rw (p.1, p.2) (shown_want c.args.format c.args.limits (left c.args.source.now)
    (left c.read.new.self) _
    (Consumes-then (left c.args.source.now) (left c.pieces.source) (left c.read.new.self)
    so_far.bytes _ so_far.took c.in-Got.ensures.took.2)
    (omega (
      arith,
      length-append so_far.bytes (take c.in-Got.count c.read.new.buf),
      so_far.size,
      size,
      small,
    )))

pub pieces-preserved : goal.pieces-preserved
pieces-preserved g c =
    let left = g.I.Source.left in
    record {
      taken = taken_more c.args.format (left c.args.source.now) (left c.pieces.source)
          (left c.read.new.self) c.args.limits.records c.pieces.taken
          (c.pieces.taken + c.in-Got.count) c.pieces.so_far c.take.new.self _
          c.pieces.invariant.taken c.in-Got.ensures.took.2
          (omega (arith, length-take c.in-Got.count c.read.new.buf, c.in-Got.ensures.took.1))
          c.in_ok-take-in-Got.ensures.meant;
      count = search (arith, c.in-Got.ensures.counts, c.pieces.invariant.count);
      sound = c.in_ok-take-in-Got.ensures.sound;
      most = c.in_ok-take-in-Got.ensures.most ∙ c.pieces.invariant.most;
      small = search rules;
      room = search (arith, length-append, length-drop, c.pieces.invariant.room);
    }

pub returns-in-End-clause-known : goal.returns-in-End-clause-known
returns-in-End-clause-known g c answer meant =
    let left = g.I.Source.left in
    shown_end c.args.format c.args.limits (left c.args.source.now) (left c.pieces.source)
    (left c.read.new.self) c.pieces.taken c.pieces.so_far answer c.pieces.invariant.taken
    (omega (arith, c.pieces-test.true))
    c.in-End.ensures.took.0 c.in-End.ensures.took.1 meant

pub returns-in-End-clause-counts : goal.returns-in-End-clause-counts
returns-in-End-clause-counts g c answer meant =
    let left = g.I.Source.left in
    counts_end c.args.format c.args.limits (left c.args.source.now) (left c.pieces.source)
    c.pieces.taken _ _ c.pieces.so_far answer c.pieces.invariant.taken
    (c.in-End.ensures.counts ∙ c.pieces.invariant.count) meant

pub returns-in-Failed-clause-fault : goal.returns-in-Failed-clause-fault
returns-in-Failed-clause-fault g c =
    let left = g.I.Source.left in
    let so_far = c.pieces.invariant.taken in
    shown_fault c.args.format c.args.limits (left c.args.source.now) (left c.read.new.self)
    so_far.bytes (Consumes-keeps (left c.args.source.now) (left c.pieces.source)
    (left c.read.new.self) so_far.bytes so_far.took c.in-Failed.ensures.took)
    (omega (arith, so_far.size, c.pieces.invariant.small))

pub returns-clause-fault : goal.returns-clause-fault
returns-clause-fault g c =
    let left = g.I.Source.left in
    let so_far = c.pieces.invariant.taken in
    shown_long c.args.format c.args.limits (left c.args.source.now) (left c.pieces.source)
    so_far.bytes so_far.took
    (omega (arith, so_far.size, c.pieces-test.false, c.pieces.invariant.small))

pub returns-in-End-clause-of_format : goal.returns-in-End-clause-of_format
returns-in-End-clause-of_format g c records meant =
    let left = g.I.Source.left in
    of_end c.args.format c.args.limits (left c.args.source.now) (left c.pieces.source)
    c.pieces.taken c.pieces.so_far records c.pieces.invariant.taken meant
