use Rattle.std.proofs.Common.{◌∙◌, refl, arith}
use Rattle.inode_claims.specs.Answers.{claim_view}
use Rattle.dir_queue.specs.Answers.{queue_view}
use Rattle.relabel_core.specs.Walked.{walk_of}
use Rattle.relabel_workers.proofs.ShareLemmas.{first_left, given_on, next_done, stands_on}
use Rattle.relabel_workers.proofs.job.do_entries.Goals as goal

pub do_entry-requires-clause-entry : goal.do_entry-requires-clause-entry
do_entry-requires-clause-entry g c =
    let h = c.entries.share in
    (first_left (walk_of c.args.site.now.input.now) c.entries.entries c.in-Some.e c.next.new.self
    (queue_view h.queue) (claim_view h.claims) h.notes c.in-Some.ensures.steps
    c.entries.invariant.done).0

pub do_entry-requires-clause-home : goal.do_entry-requires-clause-home
do_entry-requires-clause-home g c =
    let h = c.entries.share in
    (first_left (walk_of c.args.site.now.input.now) c.entries.entries c.in-Some.e c.next.new.self
    (queue_view h.queue) (claim_view h.claims) h.notes c.in-Some.ensures.steps
    c.entries.invariant.done).1

pub do_entry-requires-clause-new : goal.do_entry-requires-clause-new
do_entry-requires-clause-new g c =
    let h = c.entries.share in
    (first_left (walk_of c.args.site.now.input.now) c.entries.entries c.in-Some.e c.next.new.self
    (queue_view h.queue) (claim_view h.claims) h.notes c.in-Some.ensures.steps
    c.entries.invariant.done).2

pub entries-preserved : goal.entries-preserved
entries-preserved g c =
    let h = c.entries.share in
    let before = c.entries.invariant in
    record {
      worker = c.in_ok-one.ensures.worker;
      number = c.in_ok-one.ensures.number ∙ before.number;
      gives = given_on (walk_of c.args.site.now.input.now) c.entries.entries c.in-Some.e
          c.next.new.self c.entries.given c.saturating_add-given.result c.args.job c.from.result
          c.in_ok-one.one c.in-Some.ensures.steps c.in_ok-one.ensures.gives c.from.ensures
          before.gives c.saturating_add-given.ensures
          (let few = c.requires.site.fit.few in omega (arith, few));
      taken = c.in_ok-one.ensures.taken ∙ before.taken;
      share = c.in_ok-one.ensures.share;
      done = c.in_ok-one.ensures.done c.next.new.self
          (next_done (walk_of c.args.site.now.input.now) c.entries.entries c.in-Some.e
          c.next.new.self
          (queue_view h.queue) (claim_view h.claims) h.notes c.in-Some.ensures.steps before.done);
      stands = stands_on c.args.share.now h c.do_entry.new.share 0 0 0 before.stands
          c.in_ok-one.ensures.stands refl;
    }
