use Rattle.std.proofs.Common.{arith}
use Rattle.pattern_syntax.proofs.TokenLemmas.{run_exact}
use Rattle.pattern_syntax.proofs.exact.plain_length.Goals as goal

pub returns-then-run-gt0 : goal.returns-then-run-gt0
returns-then-run-gt0 c =
    let some = c.if-run-gt0.true in (
      omega (arith, some),
      c.plain_run-run.ensures.within,
      run_exact c.plain_run-run.result c.args.text.now c.plain_run-run.ensures.plain,
    )
