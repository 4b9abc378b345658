use Rattle.std.proofs.Common.{◌∙◌, ap, ap₂, sym, subst, length, arith}
use Rattle.tree_model.specs.LiveLists.{KeepsFlags}
use Rattle.tree_model.specs.Selection.{is_chosen}
use Rattle.tree_model.proofs.DeadLemmas.{flags_are, live_is, words_keep}
use Rattle.tree_model.proofs.SelectLemmas.{absent_end, value_of}
use Rattle.tree_model.proofs.selection.select_in.Goals as goal

pub invariant_of-result : goal.invariant_of-result
invariant_of-result c =
    let kept = words_keep c.as_slice.result.now c.exclude_all.new.live.items c.in_ok-dead.dead.items
    c.len-2.result (length c.args.sorted.now) c.as_slice.ensures.value c.in_ok-dead.ensures
    c.exclude_all.ensures.sized c.len-2.ensures in
    subst (λ l. KeepsFlags l c.in_ok-dead.dead.items c.len-2.result)
    (sym (live_is c.exclude_all.new.live.items c.in_ok-dead.dead.items c.len-2.result kept)) kept

pub returns-clause-count : goal.returns-clause-count
returns-clause-count c =
    let kept = words_keep c.as_slice.result.now c.exclude_all.new.live.items c.in_ok-dead.dead.items
    c.len-2.result (length c.args.sorted.now) c.as_slice.ensures.value c.in_ok-dead.ensures
    c.exclude_all.ensures.sized c.len-2.ensures in
    ap length (live_is c.exclude_all.new.live.items c.in_ok-dead.dead.items c.len-2.result kept)
    ∙ c.exclude_all.ensures.sized

pub returns-clause-value : goal.returns-clause-value
returns-clause-value c =
    let kept = words_keep c.as_slice.result.now c.exclude_all.new.live.items c.in_ok-dead.dead.items
    c.len-2.result (length c.args.sorted.now) c.as_slice.ensures.value c.in_ok-dead.ensures
    c.exclude_all.ensures.sized c.len-2.ensures in
    ap₂ value_of
    (live_is c.exclude_all.new.live.items c.in_ok-dead.dead.items c.len-2.result kept
    ∙ flags_are (length c.args.sorted.now) (is_chosen c.args.choice.now c.args.sorted.now)
    c.exclude_all.new.live.items c.exclude_all.ensures)
    (absent_end c.operands.index c.args.sorted.now c.args.choice.now.operands
    c.operands.admitted.absent _ (omega (arith, c.operands-test.false, c.len-index-end.ensures))
    c.operands.invariant.absent)
