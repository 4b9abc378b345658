use Rattle.std.proofs.Common.{◌-◌, refl, arith}
use Rattle.pattern_match.proofs.Repeats.{copy_below, some_copies, endless_whole}
use Rattle.pattern_match.proofs.Repeats.{endless_whole_below}
use Rattle.pattern_match.proofs.copying.endless.Goals as goal

pub looped-end-requires : goal.looped-end-requires
looped-end-requires c =
    let m = some_copies c.args.least in
    let e = c.requires.some in
    copy_below c.args.rows.now.items c.args.rows.now.items c.args.piece.now c.moved_up-last.result
    c.args.places c.args.copies (c.args.copies - 1) c.requires.can (omega arith) refl
    c.moved_up-last.ensures

pub returns-clause-below : goal.returns-clause-below
returns-clause-below c = endless_whole_below c.args.least c.args.copies c.args.places
    c.args.rows.now.items c.looped-end.new.rows.items c.joined.new.rows.items c.args.piece.now
    c.moved_up-last.result c.requires.some c.requires.can c.moved_up-last.ensures
    c.looped-end.ensures.bits c.joined.ensures.below

pub returns-clause-stands : goal.returns-clause-stands
returns-clause-stands c = λ classes a n s. endless_whole c.args.least c.args.copies c.args.places
    c.args.rows.now.items c.looped-end.new.rows.items c.joined.new.rows.items classes
    c.args.piece.now c.moved_up-last.result c.looped-end.result c.joined.result c.may_stop.result a
    c.may_stop.ensures c.requires.some c.requires.can c.moved_up-last.ensures
    c.looped-end.ensures.bits (c.looped-end.ensures.stands classes)
    (λ b. c.joined.ensures.stands classes a b) n s
