use Rattle.std.proofs.Common.{◌≡◌, ◌≤◌, filter, length}
use Rattle.label_base.specs.Bounded.{all_numbers}
use Rattle.relabel_core.specs.Answer.{walk_in}
use Rattle.relabel_core.specs.Walk.{is_skipped_first}
use Rattle.policy_rehearsal.proofs.turn.count_skipped.Given as goal

-- the directories so far that are skipped, and below no other
abbrev pub invariant-entries : goal.invariant-entries
invariant-entries l = record {
  counted : l.skipped ≡ length (filter (is_skipped_first (walk_in l.walked)) (all_numbers l.e));
  few : l.skipped ≤ l.e;
}
