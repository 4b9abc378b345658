use Rattle.std.proofs.Common.{arith}
use Rattle.relabel_workers.proofs.running.join_rest.Goals as goal

pub rows-preserved : goal.rows-preserved
rows-preserved g c =
    let one = c.in-Some.ensures.stands in
    let more = c.in_ok-share.ensures.stands in
    let left = c.in-Some.ensures.left in
    let before = c.rows.invariant in
    record {
      rows = c.next_share.ensures.rows;
      ready = c.in_ok-share.ensures.ready;
      queue_left = omega (arith, one.0, more.0, left, before.queue_left);
      claims_left = omega (arith, one.1, more.1, left, before.claims_left);
    }
