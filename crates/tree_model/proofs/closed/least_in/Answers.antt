use Rattle.tree_model.proofs.ClosedLemmas.{extent_behind, extent_upto, least_step}
use Rattle.tree_model.proofs.closed.least_in.Goals as goal

pub extents-preserved : goal.extents-preserved
extents-preserved c = record {
  behind = extent_behind _ c.args.extents.now.ends.now _ _ c.args.e c.extents.c c.requires.extents
      c.requires.within c.extents.invariant.behind c.extents-test.true;
  upto = extent_upto _ c.args.extents.now.ends.now _ _ c.args.e c.extents.c c.requires.extents
      c.requires.within
      c.extents.invariant.behind c.extents-test.true;
  least = least_step _ c.args.extents.now.ends.now _ _ c.args.e c.extents.c c.requires.extents
      c.requires.within c.extents.invariant.behind c.extents-test.true c.args.low.now
      c.extents.least _
      c.requires.low c.extents.invariant.least c.min-least.ensures;
}
