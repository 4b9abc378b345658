use Rattle.std.proofs.Common.{arith}
use Rattle.pattern_syntax.specs.Reading.{Reading}
use Rattle.pattern_syntax.specs.Building.{IsBuilderOf}
use Rattle.pattern_syntax.proofs.BuildingLemmas.{finish_open, finish_many, finish_whole}
use Rattle.pattern_syntax.proofs.builder.Builder.finish.Goals as goal

pub returns-then-open_groups-gt0 : goal.returns-then-open_groups-gt0
returns-then-open_groups-gt0 c = λ (read : Reading) (s : IsBuilderOf c.args.self read).
    finish_open c.args.self c.end_choice.new.self read c.args.at s c.in_ok-count.ensures.outer
    (omega arith)

pub returns-then-count-gt-MOST_POSITIONS : goal.returns-then-count-gt-MOST_POSITIONS
returns-then-count-gt-MOST_POSITIONS c = λ (read : Reading) (s : IsBuilderOf c.args.self read).
    finish_many c.args.self c.end_choice.new.self read c.args.at c.in_ok-count.count s
    c.in_ok-count.ensures.outer (omega arith) (c.in_ok-count.ensures.ends read s) (omega arith)

pub returns : goal.returns
returns c = λ (read : Reading) (s : IsBuilderOf c.args.self read).
    finish_whole c.args.self c.end_choice.new.self read c.args.at c.in_ok-count.count s
    c.in_ok-count.ensures.outer (omega arith) (c.in_ok-count.ensures.ends read s) (omega arith)
