use Rattle.std.proofs.Common.{ap, refl}
use Rattle.tool_runs.specs.Outside.{store_seen}
use Rattle.tool_runs.proofs.PartLemmas.{reads_seen}
use Rattle.tool_runs.proofs.RefusedRuns.{ended_by_file}
use Rattle.tool_runs.proofs.runs.run_listed.Goals as goal

pub returns-in-Err : goal.returns-in-Err
returns-in-Err g c =
    ended_by_file _ _ _ _ _ _ _ _ c.in-Err.refusal c.refuse.result c.args.run.now.list.now
    c.refuse.ensures.cause c.requires.list (reads_seen g.S.Store _ _ _ _ c.in-Err.ensures.reads)
    (λ none. ap (store_seen g.S.Store) (c.in-Err.ensures.unread none)) c.in-Err.ensures.alone refl
    c.refuse.ensures.line

pub returns : goal.returns
returns g c = c.run_found-cause.ensures _ c.in-Ok.ensures.reads c.in-Ok.ensures.unread
    c.in-Ok.ensures.alone
