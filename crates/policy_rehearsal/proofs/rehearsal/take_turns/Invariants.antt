use Rattle.std.proofs.Common.{◌≡◌, take}
use Rattle.std.specs.Prelude.{map}
use Rattle.relabel_runs.specs.Runs.{end}
use Rattle.policy_rehearsal.specs.Lent.{turn_lent}
use Rattle.policy_rehearsal.specs.Rehearsal.{bare_state, runs_of, turns_from}
use Rattle.policy_rehearsal.specs.Standing.{IsAt, IsStandingKept}
use Rattle.policy_rehearsal.proofs.rehearsal.take_turns.Given as goal

-- the turns of the versions so far, and what they leave
abbrev pub invariant-policies : goal.invariant-policies
invariant-policies l =
    let tree = l.asked.tree.now in
    let runs = runs_of l.asked.choice.now l.asked.options (take l.k l.policies) in
    record {
      kept : IsStandingKept tree l.at;
      at : IsAt tree (end tree (bare_state tree) runs) l.at;
      turns : map turn_lent l.turns ≡ turns_from tree (bare_state tree) runs;
    }
