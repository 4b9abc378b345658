use Rattle.std.proofs.Common.{◌≡◌, ◌∙◌, ap, refl, take, arith}
use Rattle.std.proofs.lemmas.List.{take_all}
use Rattle.policy_rehearsal.specs.Rehearsal.{rehearsed_by, runs_of}
use Rattle.policy_rehearsal.proofs.StandingLemmas.{all_shown, at_more, runs_more, shown_more}
use Rattle.policy_rehearsal.proofs.rehearsal.take_turns.Goals as goal

pub policies-preserved : goal.policies-preserved
policies-preserved c =
    let asked = c.args.asked.now in
    let tree = asked.tree.now in
    let runs = runs_of asked.choice.now asked.options (take c.policies.k c.args.policies.now) in
    let more = runs_more asked.choice.now asked.options c.args.policies.now c.policies.k
    c.get.result.now (omega (arith, c.policies-test.true, c.len-k-end.ensures)) c.get.ensures in
    let taken = c.in_ok-taken.ensures.taken _ c.policies.invariant.at in
    record {
      kept = c.in_ok-taken.ensures.kept;
      at = at_more tree runs _ _ _ more taken.left;
      turns = shown_more tree runs _ _ _ _ _ more c.in_ok-push.ensures.ok c.policies.invariant.turns
          taken.turn;
    }

pub returns : goal.returns
returns c =
    let asked = c.args.asked.now in
    let all : take c.policies.k c.args.policies.now ≡ c.args.policies.now =
    take_all c.policies.k c.args.policies.now
    (omega (arith, c.policies-test.false, c.len-k-end.ensures)) in
    all_shown asked.tree.now
    (runs_of asked.choice.now asked.options (take c.policies.k c.args.policies.now)) _
    c.policies.at refl c.policies.invariant.turns c.policies.invariant.kept
    c.policies.invariant.at
    ∙ ap (λ ps. rehearsed_by asked.tree.now (runs_of asked.choice.now asked.options ps)) all
