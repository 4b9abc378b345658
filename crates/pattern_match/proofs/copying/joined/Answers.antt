use Rattle.std.proofs.Common.{◌∙◌, ◌-◌, ◌==◌, ap, arith}
use Rattle.std.specs.Prelude.{◌||◌}
use Rattle.pattern_match.proofs.Repeats.{none_joined, one_joined, all_joined, joined_start}
use Rattle.pattern_match.proofs.Repeats.{joined_below, copy_below}
use Rattle.pattern_match.proofs.copying.joined.Goals as goal

pub copies-init : goal.copies-init
copies-init c = none_joined c.args.rows.now.items c.args.piece.now c.args.rest c.args.places
    c.args.least c.args.copies c.requires.behind

pub returns-clause-start : goal.returns-clause-start
returns-clause-start c = joined_start c.args.rows.now.items c.copies.rows.items c.args.piece.now
    c.copies.made c.args.rest c.args.places c.args.least c.copies.left c.args.copies (omega arith)
    c.copies.invariant

pub returns-clause-below : goal.returns-clause-below
returns-clause-below c = joined_below c.args.rows.now.items c.copies.rows.items c.args.piece.now
    c.copies.made c.args.rest c.args.places c.args.least c.copies.left c.args.copies (omega arith)
    c.copies.invariant

pub returns-clause-stands : goal.returns-clause-stands
returns-clause-stands c = all_joined c.args.rows.now.items c.copies.rows.items c.args.piece.now
    c.copies.made c.args.rest c.args.places c.args.least c.copies.left c.args.copies (omega arith)
    c.copies.invariant

pub before-made-requires : goal.before-made-requires
before-made-requires c = copy_below c.args.rows.now.items c.copies.rows.items c.args.piece.now
    c.moved_up-copy.result c.args.places c.args.copies (c.copies.left - 1) c.requires.can
    (let l = c.copies.invariant.low in omega arith) c.copies.invariant.count c.moved_up-copy.ensures

pub copies-preserved : goal.copies-preserved
copies-preserved c = one_joined c.args.rows.now.items c.copies.rows.items
    c.before-made.new.rows.items c.args.piece.now c.copies.made c.before-made.result c.args.rest
    c.moved_up-copy.result c.args.places c.args.least (c.copies.left - 1) c.copies.left
    c.args.copies c.may_stop-can_stop.result
    c.requires.can (omega arith) c.copies.invariant.low (c.may_stop-can_stop.ensures
    ∙ ap (λ n. (n == 0) || c.args.piece.now.holds_empty) c.saturating_sub.ensures)
    c.moved_up-copy.ensures c.before-made.ensures.bits c.before-made.ensures.words
    c.before-made.ensures.start c.before-made.ensures.stands c.copies.invariant
