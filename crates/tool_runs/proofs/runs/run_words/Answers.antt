use Rattle.tool_runs.proofs.WordRuns.{ended_tool, ended_words}
use Rattle.tool_runs.specs.Outside.{input_seen, sink_seen, store_seen}
use Rattle.tool_runs.proofs.runs.run_words.Goals as goal

pub returns-in-Ok-clause-run : goal.returns-in-Ok-clause-run
returns-in-Ok-clause-run g c meant answers =
    ended_tool _ _ _ meant c.in-Ok.tool c.run_tool.result c.outcome.result.cause
    c.outcome.ensures.cause (rw c.in-Ok.is at answers) c.run_tool.ensures

pub returns-in-Err-clause-run : goal.returns-in-Err-clause-run
returns-in-Err-clause-run g c meant answers =
    ended_words (store_seen g.S.Store c.args.store.now) (input_seen g.I.Source c.args.input.now)
    (sink_seen g.O.Sink c.args.out.now) _ _ _ _ _ _ _ meant c.in-Err.fault
    c.refuse_words.result c.outcome-in-Err.result.cause c.outcome-in-Err.ensures.cause
    (rw c.in-Err.is at answers) c.refuse_words.ensures.cause c.refuse_words.ensures.line
