use Rattle.tree_model.specs.LiveLists.{IsFilled}
use Rattle.tree_model.proofs.marks.fill.Given as goal

abbrev pub invariant-entries : goal.invariant-entries
invariant-entries l = IsFilled l.from l.e l.flag l.fn.live.items l.live.items
