use Rattle.std.proofs.Common.{sym, subst, arith}
use Rattle.tree_model.specs.Counted.{AreClosedFrom}
use Rattle.tree_model.proofs.CountedLemmas.{lacking_end}
use Rattle.tree_model.proofs.counted.clear_lacking.Goals as goal

pub entries-init : goal.entries-init
entries-init c = record {
  upto = omega (arith, c.len-e.ensures);
  next = lacking_end c.args.sorted.now c.len-e.result c.len-e.ensures;
  closed = subst (λ k. AreClosedFrom c.args.sorted.now k c.args.closed.now.items)
      (sym c.len-e.ensures) c.requires.closed;
}
