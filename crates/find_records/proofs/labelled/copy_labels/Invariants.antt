use Rattle.std.proofs.Common.{◌≡◌, take}
use Rattle.find_records.proofs.labelled.copy_labels.Given as goal

-- copies of the labels so far
abbrev pub invariant-labels : goal.invariant-labels
invariant-labels l = l.copies.items ≡ take l.i l.labels
