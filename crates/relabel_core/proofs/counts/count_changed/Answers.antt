use Rattle.std.proofs.Common.{◌≡◌, ◌∙◌, ap, ◌+◌, arith}
use Rattle.relabel_core.specs.Counts.{changed_below}
use Rattle.relabel_core.specs.Walk.{is_changed_name, one_if}
use Rattle.relabel_core.proofs.CountsLemmas.{at_most_one, byte_is_one, more_changed, more_counted}
use Rattle.relabel_core.proofs.counts.count_changed.Goals as goal

pub entries-preserved : goal.entries-preserved
entries-preserved g c =
    let w = g.C.LabelChanges.walk c.args.changes.now in
    let e = c.entries.e in
    let one : c.from-changed.result ≡ one_if (is_changed_name w e) = c.from-changed.ensures
    ∙ byte_is_one c.does_change.result ∙ ap one_if c.does_change.ensures in
    let last : c.entries.changed + c.from-changed.result ≡ changed_below w (e + 1) =
    omega (arith, c.entries.invariant.last, more_changed w e, one) in
    record {
      counted = more_counted w e (c.entries.changed + c.from-changed.result) c.entries.counts.items
          c.push-in-entries.new.self.items c.entries.invariant.counted last
          c.in_ok-push-2.ensures.items;
      last = last;
      few = omega (arith, c.entries.invariant.few, one, at_most_one (is_changed_name w e));
    }
