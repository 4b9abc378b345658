use Rattle.std.proofs.Common.{◌≡◌, ◌∙◌, ◌-◌, ap, get_or, length, arith}
use Rattle.std.proofs.lemmas.List.{get_or_default}
use Rattle.pattern_match.proofs.Growing.{grown_none, grown_more}
use Rattle.pattern_match.proofs.segment.grow.Goals as goal

pub places-init : goal.places-init
places-init c = grown_none c.args.by c.args.rows.now.items c.args.classes.now.items

pub places-preserved : goal.places-preserved
places-preserved c =
    let long : c.len.result ≡ length c.places.rows.items = omega arith in
    grown_more c.args.by c.args.rows.now.items c.places.rows.items c.push.new.self.items
    c.args.classes.now.items c.places.classes.items c.push-in-places.new.self.items
    c.places._done c.index-row.result.now c.index-class.result.now c.requires.some
    c.requires.within c.requires.even
    (c.index-row.ensures ∙ get_or_default c.places.rows.items (c.len.result - c.args.by)
    c.index-row.result.now 0 (let n = c.places.invariant.count in let s = c.requires.some in
    let w = c.requires.within in omega arith)
    ∙ ap (λ n. get_or c.places.rows.items (n - c.args.by) 0) long) c.in_ok-push.ensures.items
    (c.index-class.ensures
    ∙ ap (λ n. get_or c.places.classes.items (n - c.args.by) c.index-class.result.now) long)
    c.in_ok-push-2.ensures.items c.places.invariant
