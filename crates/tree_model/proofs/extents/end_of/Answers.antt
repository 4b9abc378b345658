use Rattle.std.proofs.Common.{sym, subst, length, ◌-◌, ◌<◌}
use Rattle.tree_model.proofs.KeptLemmas.{Inside, inside_end, inside_first, inside_more, inside_next}
use Rattle.tree_model.proofs.extents.end_of.Goals as goal

pub below-init : goal.below-init
below-init c = inside_first c.args.sorted.now c.requires.by_path c.args.ends.now c.args.d
    c.requires.known c.requires.behind

pub below-smaller : goal.below-smaller
below-smaller c =
    subst (λ k. length c.args.sorted.now - k < length c.args.sorted.now - c.below.c)
    (sym c.word_at-c.ensures)
    (inside_more c.args.sorted.now c.requires.by_path c.args.ends.now c.args.d c.requires.known
    c.requires.behind c.below.c c.below.invariant
    (sym c.below-test.ensures))

pub below-preserved : goal.below-preserved
below-preserved c =
    subst (Inside c.args.sorted.now c.args.d) (sym c.word_at-c.ensures)
    (inside_next c.args.sorted.now c.requires.by_path c.args.ends.now c.args.d c.requires.known
    c.requires.behind c.below.c c.below.invariant
    (sym c.below-test.ensures))

pub returns : goal.returns
returns c =
    inside_end c.args.sorted.now c.requires.by_path c.args.ends.now c.args.d c.requires.known
    c.requires.behind c.below.c c.below.invariant
    (sym c.below-test.ensures)
