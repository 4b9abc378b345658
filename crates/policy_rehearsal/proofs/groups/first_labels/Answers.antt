use Rattle.std.proofs.Common.{◌≡◌, ◌∙◌, ap, arith}
use Rattle.std.specs.Prelude.{map}
use Rattle.label_base.specs.Bounded.{all_numbers}
use Rattle.tree_model.specs.Groups.{groups_in, label_in}
use Rattle.policy_rehearsal.proofs.TurnLemmas.{listed_more}
use Rattle.policy_rehearsal.proofs.groups.first_labels.Goals as goal

pub groups-preserved : goal.groups-preserved
groups-preserved c =
    listed_more (label_in c.args.tree.now) c.groups.g _ _ _ c.in_ok-push.ensures.ok
    c.groups.invariant c.label.ensures

pub returns : goal.returns
returns c =
    let all : c.groups.g ≡ groups_in c.args.tree.now =
    omega (arith, c.groups-test.false, c.groups-g-end.ensures) in
    c.groups.invariant ∙ ap (λ n. map (label_in c.args.tree.now) (all_numbers n)) all
