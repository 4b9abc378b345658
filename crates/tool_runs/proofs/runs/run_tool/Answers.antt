use Rattle.std.proofs.Common.{refl}
use Rattle.tool_runs.proofs.MemoryRuns.{given_up_early}
use Rattle.tool_runs.proofs.runs.run_tool.Goals as goal

pub returns-in-Err : goal.returns-in-Err
returns-in-Err g c =
    given_up_early _ _ _ _ _ _ _ _ c.give_up.result c.give_up.ensures.cause refl refl
    (c.give_up.ensures.line (g.T.Tool.reads c.args.tool.now))

pub returns : goal.returns
returns g c = c.run_listed.ensures
