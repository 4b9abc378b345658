use Rattle.std.proofs.Common.{◌≡◌}
use Rattle.std.specs.Prelude.{map}
use Rattle.label_base.specs.Bounded.{all_numbers}
use Rattle.relabel_core.specs.Walk.{digest_after}
use Rattle.policy_rehearsal.specs.Seen.{walk_seen}
use Rattle.policy_rehearsal.proofs.turn.digests_after.Given as goal

-- the digests of the entries so far
abbrev pub invariant-entries : goal.invariant-entries
invariant-entries l = l.row ≡ map (digest_after (walk_seen l.seen)) (all_numbers l.d)
