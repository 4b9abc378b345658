use Rattle.std.proofs.Common.{map, subst, sym}
use Rattle.std.specs.Prelude.{bit_or, ◌||◌}
use Rattle.pattern_match.specs.Automaton.{either_automaton}
use Rattle.pattern_match.specs.Segments.{IsSegment}
use Rattle.pattern_match.proofs.WordBits.{word_either}
use Rattle.pattern_match.specs.Class.{class_bytes}
use Rattle.pattern_match.proofs.Segments.{either_segment}
use Rattle.pattern_match.proofs.segment.Segment.either.Goals as goal

pub returns-clause-stands : goal.returns-clause-stands
returns-clause-stands c = λ rows classes a b m p q.
    subst (λ v. IsSegment rows (map class_bytes classes) c.args.self.now.start
    (bit_or c.args.self.now.first c.args.right.now.first)
    (bit_or c.args.right.now.last c.args.self.now.last) v c.is_either-2.result
    (either_automaton a b)) (sym c.is_either.ensures)
    (subst (λ v. IsSegment rows (map class_bytes classes) c.args.self.now.start
    (bit_or c.args.self.now.first c.args.right.now.first)
    (bit_or c.args.right.now.last c.args.self.now.last)
    (c.args.self.now.holds_empty || c.args.right.now.holds_empty) v (either_automaton a b))
    (sym c.is_either-2.ensures)
    (either_segment rows (map class_bytes classes) c.args.self.now.start c.args.right.now.start
    c.args.self.now.first c.args.self.now.last c.args.right.now.first c.args.right.now.last
    (bit_or c.args.self.now.first c.args.right.now.first)
    (bit_or c.args.right.now.last c.args.self.now.last) c.args.self.now.holds_empty
    c.args.right.now.holds_empty c.args.self.now.is_live c.args.right.now.is_live a b m
    (word_either c.args.right.now.last c.args.self.now.last)
    (word_either c.args.self.now.first c.args.right.now.first) p q))
