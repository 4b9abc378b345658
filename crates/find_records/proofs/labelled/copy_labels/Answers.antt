use Rattle.std.proofs.Common.{arith}
use Rattle.find_records.proofs.LabelledLemmas.{copied_more}
use Rattle.find_records.proofs.labelled.copy_labels.Goals as goal

pub labels-preserved : goal.labels-preserved
labels-preserved c =
    copied_more c.args.labels.now c.labels.copies.items c.push.new.self.items c.labels.i _ _
    (omega (arith, c.labels-test.true, c.labels.auto.i-end, c.len-i-end.ensures))
    c.in_ok-push.ensures.items c.in_ok-copy.ensures c.get.ensures c.labels.invariant
