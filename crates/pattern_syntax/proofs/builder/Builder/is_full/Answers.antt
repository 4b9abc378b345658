use Rattle.std.proofs.Common.{arith}
use Rattle.pattern_syntax.specs.Reading.{Reading}
use Rattle.pattern_syntax.specs.Building.{IsBuilderOf}
use Rattle.pattern_syntax.proofs.RestLemmas.{full_shown, not_full}
use Rattle.pattern_syntax.proofs.builder.Builder.is_full.Goals as goal

pub returns-then-open_groups-gt0 : goal.returns-then-open_groups-gt0
returns-then-open_groups-gt0 c = λ (read : Reading) (s : IsBuilderOf c.args.self.now read).
    not_full c.args.self.now read s (omega arith)

pub returns : goal.returns
returns c = λ (read : Reading) (s : IsBuilderOf c.args.self.now read).
    full_shown c.args.self.now read c.unwrap_or.result c.sum.result s (omega arith)
    c.unwrap_or.ensures c.sum.ensures
