use Rattle.std.proofs.Common.{◌≡◌, ◌∙◌, ◌<◌, ap, false, length, get_or, arith}
use Rattle.std.specs.Prelude.{◌&&◌, nat_le}
use Rattle.std.proofs.lemmas.List.{get_or_default}
use Rattle.tree_model.proofs.CountedLemmas.{closed_put}
use Rattle.tree_model.proofs.counted.pass_entry.Goals as goal

pub returns : goal.returns
returns c =
    let flags = c.args.closed.now.items in
    let e = c.args.e in
    let known : e < length flags = omega (arith, c.requires.known, c.requires.closed.sized) in
    let here : c.index.result.now ≡ get_or flags e false = c.index.ensures
    ∙ get_or_default flags e c.index.result.now false known in
    closed_put c.args.sorted.now c.requires.by_path c.args.ends.now c.requires.ends e c.args.next
    flags c.stays_closed-flag.result
    c.requires.known c.requires.next (c.stays_closed-flag.ensures
    ∙ ap (λ b. b && nat_le (get_or c.args.ends.now e 0) c.args.next) here) c.requires.closed
