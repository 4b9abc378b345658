use Rattle.pattern_match.proofs.Repeats.{counted_stand}
use Rattle.pattern_match.proofs.copying.counted.Goals as goal

pub returns-clause-stands : goal.returns-clause-stands
returns-clause-stands c = λ classes a n s. counted_stand c.args.least c.args.copies c.args.places
    c.args.rows.now.items c.joined.new.rows.items classes c.args.piece.now c.bare-end.result
    c.joined.result a c.bare-end.ensures (λ b. c.joined.ensures.stands classes a b) n s
