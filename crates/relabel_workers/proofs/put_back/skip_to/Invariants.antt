use Rattle.std.proofs.Common.{◌≡◌}
use Rattle.relabel_workers.specs.PutBack.{AreSkippedTo}
use Rattle.relabel_workers.proofs.put_back.skip_to.Given as goal

abbrev pub invariant-below : goal.invariant-below
invariant-below l = record {
  skips : AreSkippedTo l.fn.swept.skips.items l.d l.e l.swept.skips.items;
  made : l.swept.made ≡ l.fn.swept.made;
}
