use Rattle.std.proofs.Common.{◌≡◌, ◌∙◌, ap, ◌+◌, filter, length, add-one, arith}
use Rattle.label_base.specs.Bounded.{all_numbers}
use Rattle.relabel_core.specs.Answer.{walk_in}
use Rattle.relabel_core.specs.Walk.{walk_count, is_skipped_first, one_if}
use Rattle.relabel_core.proofs.CountsLemmas.{at_most_one, byte_is_one}
use Rattle.relabel_core.proofs.NotedLemmas.{filtered_more}
use Rattle.policy_rehearsal.specs.Rehearsal.{skipped_in}
use Rattle.policy_rehearsal.proofs.turn.count_skipped.Goals as goal

pub entries-preserved : goal.entries-preserved
entries-preserved c =
    let w = walk_in c.args.walked.now in
    let e = c.entries.e in
    let p = is_skipped_first w in
    let one : c.from-skipped.result ≡ one_if (p e) = c.from-skipped.ensures
    ∙ byte_is_one c.is_skipped_first.result ∙ ap one_if c.is_skipped_first.ensures in
    let more : length (filter p (all_numbers (e + 1))) ≡ length (filter p (all_numbers e)) + one_if
    (p e) =
    ap (λ n. length (filter p (all_numbers n))) (add-one e) ∙ filtered_more p (all_numbers e) e in
    record {
      counted = omega (arith, c.entries.invariant.counted, more, one);
      few = omega (arith, c.entries.invariant.few, one, at_most_one (p e));
    }

pub returns : goal.returns
unfolding skipped_in
returns c =
    let w = walk_in c.args.walked.now in
    let all : c.entries.e ≡ walk_count w =
    omega (arith, c.entries-test.false, c.len-e-end.ensures) in
    c.entries.invariant.counted ∙ ap (λ n. length (filter (is_skipped_first w) (all_numbers n))) all
