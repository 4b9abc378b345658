use Rattle.std.proofs.Common.{◌∙◌, arith, take-add, take, drop, length-drop}
use Rattle.std.proofs.lemmas.List.{take_rest}
use Rattle.input_output.proofs.Known.{Appends-then}
use Rattle.input_output.proofs.sink.write_all.Goals as goal

pub loop-done-preserved : goal.loop-done-preserved
loop-done-preserved g c =
    let written = g.O.Sink.written in
    let took = rw take_rest at c.in-Took.ensures.put in
    record {
      written = rw (take-add c.loop-done.done c.in-Took.count c.args.bytes.now)
          (Appends-then (written c.args.out.now) (written c.loop-done.out)
          (written c.write.new.self) (take c.loop-done.done c.args.bytes.now)
          (take c.in-Took.count (drop c.loop-done.done c.args.bytes.now))
          c.loop-done.invariant.written took.2);
      calm = c.in-Took.ensures.counts ∙ c.loop-done.invariant.calm;
      within = omega (arith, took.1, length-drop c.loop-done.done c.args.bytes.now);
    }
