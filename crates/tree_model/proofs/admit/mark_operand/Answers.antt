use Rattle.std.proofs.Common.{◌≡◌, true, false, arith, rules}
use Rattle.tree_model.specs.Selection.{admits}
use Rattle.tree_model.proofs.MarkLemmas.{marked_as}
use Rattle.tree_model.proofs.ExtentsByEnds.{admits_one, admits_run, admits_device, ends_runs}
use Rattle.tree_model.proofs.admit.mark_operand.Goals as goal

pub returns-then-not-choice : goal.returns-then-not-choice
returns-then-not-choice c =
    let off : c.args.choice.now.recurse ≡ false = search rules in
    marked_as _ (admits c.args.choice.now c.args.sorted.now c.args.o) _ _ c.mark_one.ensures
    (λ e l. admits_one c.args.sorted.now c.requires.by_path c.args.ends.now c.requires.ends
    c.args.choice.now c.args.o e c.requires.within off)

pub mark_device-requires-clause-ends : goal.mark_device-requires-clause-ends
mark_device-requires-clause-ends c = ends_runs c.args.sorted.now c.requires.by_path c.args.ends.now
    c.requires.ends (omega (arith, c.len-count.ensures))

pub returns-then-choice : goal.returns-then-choice
returns-then-choice c =
    let on : c.args.choice.now.recurse ≡ true = search rules in
    let one : c.args.choice.now.one_device ≡ true = search rules in
    marked_as _ (admits c.args.choice.now c.args.sorted.now c.args.o) _ _ c.mark_device.ensures
    (λ e l. admits_device c.args.sorted.now c.requires.by_path c.args.ends.now c.requires.ends
    c.args.choice.now c.args.o e c.requires.within (omega (arith, l, c.requires.flags)) on one)

pub mark_extent-requires-clause-ends : goal.mark_extent-requires-clause-ends
mark_extent-requires-clause-ends c = ends_runs c.args.sorted.now c.requires.by_path c.args.ends.now
    c.requires.ends (omega (arith, c.len-count.ensures))

pub returns : goal.returns
returns c =
    let on : c.args.choice.now.recurse ≡ true = search rules in
    let all : c.args.choice.now.one_device ≡ false = search rules in
    marked_as _ (admits c.args.choice.now c.args.sorted.now c.args.o) _ _ c.mark_extent.ensures
    (λ e l. admits_run c.args.sorted.now c.requires.by_path c.args.ends.now c.requires.ends
    c.args.choice.now c.args.o e c.requires.within (omega (arith, l, c.requires.flags)) on all)
