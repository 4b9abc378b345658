use Rattle.std.proofs.Common.{length}
use Rattle.pattern_match.proofs.WholePasses.{gone_over, start_within}
use Rattle.pattern_match.proofs.over.go_over.Goals as goal

pub has_bit-requires : goal.has_bit-requires
has_bit-requires c = start_within c.args.operations.now (length c.args.from.now) c.requires.bits
    c.of-part.result c.places.result c.of-part.ensures c.places.ensures

pub returns-clause-bits : goal.returns-clause-bits
returns-clause-bits c = gone_over c.args.operations.now c.args.entry c.args.from.now c.args.to.now
    c.clear.new.words c.pass.new.to c.of-part.result c.places.result c.has_bit.result
    c.requires.bits c.of-part.ensures c.places.ensures c.has_bit.ensures
    c.requires.even c.clear.ensures.words c.pass.ensures.words c.clear.ensures.bits
    c.pass.ensures.bits
