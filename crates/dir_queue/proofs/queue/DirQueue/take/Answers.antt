use Rattle.std.proofs.Common.{rules, subst, sym, ◌∙◌}
use Rattle.dir_queue.specs.Passes.{HoldsEachOnce}
use Rattle.dir_queue.proofs.Keeps.{takes, balances}
use Rattle.dir_queue.proofs.Whole.{accounted_each, held_empty, empty_is_all, take_is_not_all}
use Rattle.dir_queue.proofs.Whole.{empty_is_sound}
use Rattle.dir_queue.proofs.Parents.{popped_under}
use Rattle.dir_queue.proofs.queue.DirQueue.take.Goals as goal

pub pop_as-requires-clause-rule : goal.pop_as-requires-clause-rule
pop_as-requires-clause-rule g c =
    (takes _ _ (search rules) (search rules), balances _ _ (search rules) (search rules))

pub returns-in-Some-clause-none : goal.returns-in-Some-clause-none
returns-in-Some-clause-none g c = λ whole. take_is_not_all _ _ _ c.in-Some.ensures.rule
    (whole ∙ sym c.requires.passes)

pub returns-in-None-clause-each : goal.returns-in-None-clause-each
returns-in-None-clause-each g c = λ whole. let held = c.in-None.ensures.rule in
    subst HoldsEachOnce (sym held.0)
    (accounted_each _ _ (held_empty _ held.1 (whole ∙ sym c.requires.passes)))

pub returns-in-None-clause-none : goal.returns-in-None-clause-none
returns-in-None-clause-none g c =
    λ whole. empty_is_all _ (held_empty _ c.in-None.ensures.rule.1 (whole ∙ sym c.requires.passes))

pub returns-in-None-clause-sound : goal.returns-in-None-clause-sound
returns-in-None-clause-sound g c = λ whole. empty_is_sound _ _ c.requires.parents
    (held_empty _ c.in-None.ensures.rule.1 (whole ∙ sym c.requires.passes))

pub invariant_of-pass-clause-under : goal.invariant_of-pass-clause-under
invariant_of-pass-clause-under g c = popped_under _ _ _ c.pop_as.ensures.rule c.args.pass.now.under
