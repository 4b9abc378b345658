use Rattle.std.proofs.Common.{arith}
use Rattle.find_records.specs.Entry.{entry_of}
use Rattle.tree_model.proofs.CountedLemmas.{none_next}
use Rattle.tree_model.proofs.groups.has_counts.Goals as goal

pub entries-preserved : goal.entries-preserved
entries-preserved c = none_next c.args.sorted.now c.entries.e (entry_of c.entry.result)
    c.entries.counted _ c.entry.ensures c.is_counted-counted.ensures c.entries.invariant

pub returns : goal.returns
returns c = λ lacks k l. c.entries.invariant lacks k (omega (arith, l, c.len-e-end.ensures))
