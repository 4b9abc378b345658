use Rattle.pattern_syntax.specs.ByteSet.{has_byte}
use Rattle.pattern_syntax.proofs.Sets.{none_is}
use Rattle.pattern_syntax.proofs.byte_set.ByteSet.is_empty.Goals as goal

pub returns : goal.returns
returns c = none_is (has_byte c.args.self.now) c.first_from.result c.is_none.result
    c.is_none.ensures c.first_from.ensures
