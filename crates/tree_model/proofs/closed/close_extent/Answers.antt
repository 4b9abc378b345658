use Rattle.tree_model.proofs.ClosedLemmas.{closed_put}
use Rattle.tree_model.proofs.closed.close_extent.Goals as goal

pub returns-clause-closed : goal.returns-clause-closed
returns-clause-closed c = closed_put c.args.extents.now.groups.now c.args.extents.now.ends.now _ _
    c.args.so_far.now.closed.items c.args.e _ _ c.is_inside-flag.result c.requires.extents
    c.requires.within c.least_in-least.ensures c.greatest_in-greatest.ensures
    c.is_inside-flag.ensures c.requires.closed
