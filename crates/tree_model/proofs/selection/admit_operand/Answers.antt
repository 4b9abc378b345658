use Rattle.std.proofs.Common.{◌≡◌, ◌∙◌, ◌+◌, ◌||◌, ap, sym, length, take}
use Rattle.std.proofs.lemmas.Result.{on_ok_weaker}
use Rattle.std.specs.Prelude.{Some, None}
use Rattle.tree_model.specs.Selection.{admits, is_admitted}
use Rattle.tree_model.specs.Tree.{find_in}
use Rattle.tree_model.proofs.MarkLemmas.{or_false}
use Rattle.tree_model.proofs.SelectLemmas.{absent_found, absent_none, admitted_more, flags_same}
use Rattle.tree_model.proofs.selection.admit_operand.Goals as goal

pub returns-in-Some-clause-flags : goal.returns-in-Some-clause-flags
returns-in-Some-clause-flags c =
    let there : find_in c.get.result.now c.args.sorted.now ≡ Some c.in-Some.o =
    ap (λ p. find_in p c.args.sorted.now) (sym c.path-path.ensures) ∙ sym c.find.ensures
    ∙ c.in-Some.is in
    let before = take c.args.index c.args.choice.now.operands in
    flags_same (length c.args.sorted.now)
    (λ e. is_admitted c.args.choice.now c.args.sorted.now before e || admits c.args.choice.now
    c.args.sorted.now c.in-Some.o e)
    (is_admitted c.args.choice.now c.args.sorted.now
    (take (c.args.index + 1) c.args.choice.now.operands)) c.admit_entry.new.live.items
    (c.admit_entry.ensures before c.requires.flags)
    (admitted_more c.args.choice.now c.args.sorted.now c.args.choice.now.operands c.args.index
    c.get.result.now (Some c.in-Some.o) c.get.ensures there)

pub returns-in-Some-clause-absent : goal.returns-in-Some-clause-absent
returns-in-Some-clause-absent c =
    let there : find_in c.get.result.now c.args.sorted.now ≡ Some c.in-Some.o =
    ap (λ p. find_in p c.args.sorted.now) (sym c.path-path.ensures) ∙ sym c.find.ensures
    ∙ c.in-Some.is in
    absent_found c.args.index c.in-Some.o c.args.sorted.now c.args.choice.now.operands
    c.get.result.now c.args.admitted.now.absent c.get.ensures there

pub returns-in-None-clause-flags : goal.returns-in-None-clause-flags
returns-in-None-clause-flags c =
    let there : find_in c.get.result.now c.args.sorted.now ≡ None =
    ap (λ p. find_in p c.args.sorted.now) (sym c.path-path.ensures) ∙ sym c.find.ensures
    ∙ c.in-None.is in
    flags_same (length c.args.sorted.now)
    (is_admitted c.args.choice.now c.args.sorted.now
    (take c.args.index c.args.choice.now.operands))
    (is_admitted c.args.choice.now c.args.sorted.now
    (take (c.args.index + 1) c.args.choice.now.operands)) c.args.admitted.now.live.items
    c.requires.flags
    (λ e. admitted_more c.args.choice.now c.args.sorted.now c.args.choice.now.operands c.args.index
    c.get.result.now None c.get.ensures there e
    ∙ or_false (is_admitted c.args.choice.now c.args.sorted.now
    (take c.args.index c.args.choice.now.operands) e))

pub returns-in-None-clause-absent : goal.returns-in-None-clause-absent
returns-in-None-clause-absent c =
    let there : find_in c.get.result.now c.args.sorted.now ≡ None =
    ap (λ p. find_in p c.args.sorted.now) (sym c.path-path.ensures) ∙ sym c.find.ensures
    ∙ c.in-None.is in
    on_ok_weaker c.push.result
    (absent_none c.args.index c.args.sorted.now c.args.choice.now.operands c.get.result.now
    c.args.admitted.now.absent c.push.new.self c.get.ensures there) c.push.ensures.ok
