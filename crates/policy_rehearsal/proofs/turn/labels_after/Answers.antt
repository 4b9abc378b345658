use Rattle.std.proofs.Common.{◌≡◌, ◌∙◌, ap, arith}
use Rattle.std.specs.Prelude.{map}
use Rattle.label_base.specs.Bounded.{all_numbers}
use Rattle.tree_model.specs.Groups.{groups_in}
use Rattle.relabel_core.specs.Walk.{new_label}
use Rattle.policy_rehearsal.specs.Seen.{walk_seen}
use Rattle.policy_rehearsal.proofs.TurnLemmas.{listed_more}
use Rattle.policy_rehearsal.proofs.turn.labels_after.Goals as goal

pub groups-preserved : goal.groups-preserved
groups-preserved c =
    listed_more (new_label (walk_seen c.args.seen.now)) c.groups.g _ _ _ c.in_ok-push.ensures.ok
    c.groups.invariant c.label_after.ensures

pub returns : goal.returns
returns c =
    let all : c.groups.g ≡ groups_in c.args.seen.now.tree.now =
    omega (arith, c.groups-test.false, c.groups-g-end.ensures) in
    c.groups.invariant ∙ ap (λ n. map (new_label (walk_seen c.args.seen.now)) (all_numbers n)) all
