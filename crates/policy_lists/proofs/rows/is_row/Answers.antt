use Rattle.std.proofs.Common.{◌∙◌, ℕ, ap, sym}
use Rattle.std.specs.Global.{Vec}
use Rattle.policy_lists.proofs.RowLemmas.{row_here}
use Rattle.policy_lists.proofs.rows.is_row.Goals as goal

pub returns : goal.returns
returns c = λ e.
    row_here c.args.rows.now c.args.number c.index-rows-number.result c.requires
    ∙ ap (λ (row : Vec ℕ). row.items) (sym c.index-rows-number.is)
    ∙ sym c.as_slice.ensures.value ∙ c.are_same.ensures e
