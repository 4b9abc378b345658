use Rattle.std.proofs.Common.{◌<◌, length, subst, get_or, arith}
use Rattle.std.proofs.lemmas.List.{take_all}
use Rattle.std.proofs.lemmas.Option.{slice_get-get_or}
use Rattle.find_records.specs.Rows.{AreLaid}
use Rattle.find_records.proofs.LayLemmas.{laid_more, place_at}
use Rattle.find_records.proofs.lay.lay.Goals as goal

pub each-preserved : goal.each-preserved
each-preserved c = λ profiles within.
    let next : c.each.i < length c.args.places.now =
    omega (arith, c.each-test.true, c.each.auto.i-end) in
    laid_more c.args.texts.now c.each.laid.texts.items c.lay_row.new.laid.texts.items profiles
    c.args.rows.now c.each.laid.rows.items c.lay_row.new.laid.rows.items c.args.places.now
    c.each.i _
    next (slice_get-get_or c.args.rows.now (get_or c.args.places.now c.each.i 0) _
    (place_at (length c.args.rows.now) c.args.places.now c.each.i c.requires.known next))
    within c.in_ok-lay_row.ensures.texts c.in_ok-lay_row.ensures.rows
    (c.each.invariant profiles within)

pub returns : goal.returns
returns c = λ profiles within.
    subst (λ ps. AreLaid c.args.texts.now profiles c.args.rows.now ps c.each.laid.texts.items
    c.each.laid.rows.items)
    (take_all c.each.i c.args.places.now (omega (arith, c.each-test.false, c.each.auto.i-end)))
    (c.each.invariant profiles within)
