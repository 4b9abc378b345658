use Rattle.std.proofs.Common.{map}
use Rattle.pattern_match.specs.Class.{class_bytes}
use Rattle.pattern_match.proofs.Segments.{looped_segment}
use Rattle.pattern_match.proofs.segment.Segment.looped.Goals as goal

pub returns-clause-stands : goal.returns-clause-stands
returns-clause-stands c = λ classes a p. looped_segment c.args.rows.now.items c.link.new.rows.items
    (map class_bytes classes) c.args.self.now.start c.args.self.now.first c.args.self.now.last
    c.args.self.now.holds_empty c.args.self.now.is_live c.args.holds_empty a c.link.ensures.bits p
