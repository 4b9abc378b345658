use Rattle.std.proofs.Common.{◌≡◌, ◌∙◌, true, false, ap, sym, length, get_or}
use Rattle.std.specs.Prelude.{◌&&◌}
use Rattle.label_base.specs.Bounded.{all_below, implies}
use Rattle.tree_model.specs.Extents.{in_extent}
use Rattle.tree_model.specs.Groups.{closed_at}
use Rattle.tree_model.proofs.DeadLemmas.{whole_is}
use Rattle.tree_model.proofs.selection.Selected.is_whole.Goals as goal

pub returns-then-closed : goal.returns-then-closed
returns-then-closed c =
    let closed : closed_at c.args.tree.now c.args.d ≡ true = sym c.closed.ensures
    ∙ c.if-closed.true in
    whole_is c.args.tree.now c.args.self.now.live c.args.d c.extent.result c.next_dead.result
    c.requires.count c.extent.ensures.value c.extent.ensures.run c.next_dead.ensures
    ∙ sym (ap (λ b. b && all_below (length c.args.tree.now)
    (λ e. implies (in_extent c.args.tree.now c.args.d e) (get_or c.args.self.now.live e false)))
    closed)
