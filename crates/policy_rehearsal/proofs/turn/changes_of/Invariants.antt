use Rattle.std.proofs.Common.{◌≡◌}
use Rattle.std.specs.Prelude.{map}
use Rattle.std.specs.List.{filter_map}
use Rattle.label_base.specs.Bounded.{all_numbers}
use Rattle.policy_rehearsal.specs.Lent.{change_lent}
use Rattle.policy_rehearsal.specs.Seen.{walk_seen}
use Rattle.policy_rehearsal.proofs.TurnLemmas.{change_there}
use Rattle.policy_rehearsal.proofs.turn.changes_of.Given as goal

-- the changes of the entries so far
abbrev pub invariant-entries : goal.invariant-entries
invariant-entries l =
    map change_lent l.changes ≡ filter_map (change_there (walk_seen l.seen)) (all_numbers l.e)
