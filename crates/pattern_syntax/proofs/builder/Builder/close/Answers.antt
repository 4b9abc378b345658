use Rattle.std.proofs.Common.{arith}
use Rattle.pattern_syntax.specs.Reading.{Reading}
use Rattle.pattern_syntax.specs.Building.{IsBuilderOf}
use Rattle.pattern_syntax.proofs.BuildingLemmas.{no_open_group}
use Rattle.pattern_syntax.proofs.builder.Builder.close.Goals as goal

pub returns-in-None : goal.returns-in-None
returns-in-None c = λ (read : Reading) (s : IsBuilderOf c.args.self.now read).
    no_open_group c.end_choice.new.self.outer.items read.outer c.args.at
    (rw c.in_ok-count.ensures.outer s.outer) (omega (arith, c.in-None.ensures.cases.0))
