use Rattle.std.proofs.Common.{map}
use Rattle.pattern_match.specs.Class.{class_bytes}
use Rattle.pattern_match.proofs.Segments.{before_segment}
use Rattle.pattern_match.proofs.segment.Segment.before.Goals as goal

pub returns-clause-stands : goal.returns-clause-stands
returns-clause-stands c = λ classes a b m p q. before_segment c.args.rows.now.items
    c.link.new.rows.items (map class_bytes classes) c.args.self.now.start c.args.rest.now.start
    c.args.self.now.first c.args.self.now.last c.args.rest.now.first c.args.rest.now.last
    c.with_bits_if.result c.args.self.now.holds_empty c.args.rest.now.holds_empty
    c.args.self.now.is_live c.args.rest.now.is_live c.args.holds_empty a b m c.link.ensures.bits
    c.with_bits_if.ensures p q
