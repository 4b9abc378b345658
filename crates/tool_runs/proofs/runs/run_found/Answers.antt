use Rattle.std.proofs.Common.{ap}
use Rattle.tool_runs.specs.Outside.{input_seen, store_seen}
use Rattle.tool_runs.proofs.PartLemmas.{reads_seen}
use Rattle.tool_runs.proofs.RefusedRuns.{ended_by_input}
use Rattle.tool_runs.proofs.WrittenRuns.{ended_run}
use Rattle.tool_runs.proofs.runs.run_found.Goals as goal

pub returns-in-Err : goal.returns-in-Err
returns-in-Err g c before accepted unread alone =
    let given = rw c.record_format.ensures at c.in-Err.ensures in
    ended_by_input _ _ _ _ _ _ _ _ c.in-Err.refusal c.refuse.result c.args.run.now.list.now
    c.args.found.now c.refuse.ensures.cause c.requires.list
    (reads_seen g.S.Store _ _ _ _ accepted)
    (record {
      gives = given.answer;
      untouched = λ none. ap (input_seen g.I.Source) (given.untouched none);
      counts = given.counts;
    })
    given.kinds (λ none. ap (store_seen g.S.Store) (unread none)) alone c.refuse.ensures.line

pub returns : goal.returns
returns g c before accepted unread alone =
    let given = rw c.record_format.ensures at c.in-Ok.ensures in
    ended_run _ _ _ _ _ _ _ _ (store_seen g.S.Store c.args.store.now) c.args.found.now
    c.in-Ok.tree (reads_seen g.S.Store _ _ _ _ accepted)
    (record {
      gives = given.answer;
      untouched = λ none. ap (input_seen g.I.Source) (given.untouched none);
      counts = given.counts;
    })
    given.ended (λ none. ap (store_seen g.S.Store) (unread none)) alone c.end_run.result
    c.end_run.ensures
