use Rattle.std.proofs.Common.{◌∙◌, sym, arith}
use Rattle.std.proofs.lemmas.Bool.{eqb-true, eqb-false}
use Rattle.tree_model.specs.Extents.{entry_at}
use Rattle.tree_model.proofs.MarkLemmas.{marked_same, marked_skip}
use Rattle.tree_model.proofs.admit.mark_or_skip.Goals as goal

pub returns-then-is_same_device-clause-marked : goal.returns-then-is_same_device-clause-marked
returns-then-is_same_device-clause-marked c = λ start r.
    marked_same c.args.ends.now (λ e. (entry_at c.args.sorted.now e).device) c.args.o c.args.c start
    c.args.live.now.items c.requires.ends
    (omega (arith, r.sized, c.requires.flags, c.requires.count)) c.requires.from c.requires.upto
    (omega (arith, c.requires.within, c.requires.count)) r
    (eqb-true _ _ (sym c.is_same_device.ensures ∙ c.if-is_same_device.true))

pub returns-else-is_same_device-clause-marked : goal.returns-else-is_same_device-clause-marked
returns-else-is_same_device-clause-marked c = λ start r.
    marked_skip c.args.ends.now (λ e. (entry_at c.args.sorted.now e).device) c.args.o c.args.c start
    c.args.live.now.items c.requires.ends
    (omega (arith, r.sized, c.requires.flags, c.requires.count)) c.requires.from c.requires.upto
    (omega (arith, c.requires.within, c.requires.count)) r
    (eqb-false _ _ (sym c.is_same_device.ensures ∙ c.if-is_same_device.false))
