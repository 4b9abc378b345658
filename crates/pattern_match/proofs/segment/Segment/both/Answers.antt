use Rattle.std.proofs.Common.{map, subst, sym, true}
use Rattle.pattern_match.specs.Automaton.{both_live}
use Rattle.pattern_match.specs.Segments.{IsSegment}
use Rattle.pattern_match.specs.Class.{class_bytes}
use Rattle.pattern_match.proofs.Segments.{both_segment}
use Rattle.pattern_match.proofs.segment.Segment.both.Goals as goal

pub returns-clause-stands : goal.returns-clause-stands
returns-clause-stands c = λ classes a b m p q.
    subst (λ v. IsSegment c.link.new.rows.items (map class_bytes classes) c.args.self.now.start
    c.with_bits_if.result c.with_bits_if-2.result v true (both_live a b))
    (sym c.are_both.ensures)
    (both_segment c.args.rows.now.items c.link.new.rows.items (map class_bytes classes)
    c.args.self.now.start c.args.second.now.start c.args.self.now.first c.args.self.now.last
    c.args.second.now.first c.args.second.now.last c.with_bits_if.result c.with_bits_if-2.result
    c.args.self.now.holds_empty c.args.second.now.holds_empty c.args.self.now.is_live
    c.args.second.now.is_live a b m c.link.ensures.bits c.with_bits_if-2.ensures
    c.with_bits_if.ensures p q)
