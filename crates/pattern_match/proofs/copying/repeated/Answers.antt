use Rattle.std.proofs.Common.{◌≡◌, ◌∙◌, ◌-◌, Some, ap, sym, subst, arith}
use Rattle.pattern_match.specs.Automaton.{repeat_places}
use Rattle.pattern_match.specs.Layouts.{StandCopies, IsSegmentOf, copies_of}
use Rattle.pattern_match.proofs.Repeats.{repeated_places, repeated_stands}
use Rattle.pattern_match.proofs.copying.repeated.Goals as goal

pub returns-in-Some-clause-places : goal.returns-in-Some-clause-places
returns-in-Some-clause-places c =
    let k : c.copies_of-copies.result ≡ copies_of c.args.least c.args.most =
    c.copies_of-copies.ensures in
    let p = c.requires.copies in
    repeated_places c.args.rows.now.items c.grow.new.rows.items c.counted.new.rows.items
    c.args.classes.now.items c.grow.new.classes.items c.args.piece.now c.counted.result
    c.args.places (c.copies_of-copies.result - 1) (copies_of c.args.least c.args.most)
    (omega arith) c.requires.last c.in_ok-grow.ensures c.requires.few c.counted.ensures.count
    c.counted.ensures.start c.counted.ensures.below

pub returns-in-Some-clause-stands : goal.returns-in-Some-clause-stands
returns-in-Some-clause-stands c =
    let k : c.copies_of-copies.result ≡ copies_of c.args.least c.args.most =
    c.copies_of-copies.ensures in
    let p = c.requires.copies in
    let w : Some c.copies_of-copies.result ≡ c.args.most =
    ap Some (k ∙ ap (copies_of c.args.least) c.in-Some.is) ∙ sym c.in-Some.is in
    λ a n s. repeated_stands c.args.rows.now.items c.grow.new.rows.items c.counted.new.rows.items
    c.args.classes.now.items c.grow.new.classes.items c.args.piece.now c.counted.result
    c.args.places (c.copies_of-copies.result - 1) (copies_of c.args.least c.args.most) a
    (repeat_places c.args.least c.args.most a) (omega arith) c.requires.last
    c.in_ok-grow.ensures c.requires.few
    (λ m t. subst (λ o. IsSegmentOf c.counted.new.rows.items c.grow.new.classes.items
    c.counted.result (repeat_places c.args.least o a)) w
    (c.counted.ensures.stands c.grow.new.classes.items a m
    (subst (λ i. StandCopies c.grow.new.rows.items c.grow.new.classes.items c.args.piece.now i
    a) (sym k) t)))
    n s

pub returns-in-None-clause-places : goal.returns-in-None-clause-places
returns-in-None-clause-places c =
    let k : c.copies_of-copies.result ≡ copies_of c.args.least c.args.most =
    c.copies_of-copies.ensures in
    let p = c.requires.copies in
    repeated_places c.args.rows.now.items c.grow.new.rows.items c.endless.new.rows.items
    c.args.classes.now.items c.grow.new.classes.items c.args.piece.now c.endless.result
    c.args.places (c.copies_of-copies.result - 1) (copies_of c.args.least c.args.most)
    (omega arith) c.requires.last c.in_ok-grow.ensures c.requires.few c.endless.ensures.count
    c.endless.ensures.start c.endless.ensures.below

pub returns-in-None-clause-stands : goal.returns-in-None-clause-stands
returns-in-None-clause-stands c =
    let k : c.copies_of-copies.result ≡ copies_of c.args.least c.args.most =
    c.copies_of-copies.ensures in
    let p = c.requires.copies in
    λ a n s. repeated_stands c.args.rows.now.items c.grow.new.rows.items c.endless.new.rows.items
    c.args.classes.now.items c.grow.new.classes.items c.args.piece.now c.endless.result
    c.args.places (c.copies_of-copies.result - 1) (copies_of c.args.least c.args.most) a
    (repeat_places c.args.least c.args.most a) (omega arith) c.requires.last
    c.in_ok-grow.ensures c.requires.few
    (λ m t. subst (λ o. IsSegmentOf c.endless.new.rows.items c.grow.new.classes.items
    c.endless.result (repeat_places c.args.least o a)) (sym c.in-None.is)
    (c.endless.ensures.stands c.grow.new.classes.items a m
    (subst (λ i. StandCopies c.grow.new.rows.items c.grow.new.classes.items c.args.piece.now i
    a) (sym k) t)))
    n s
