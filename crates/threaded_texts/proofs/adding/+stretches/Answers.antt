use Rattle.std.proofs.Common.{◌-◌, arith}
use Rattle.threaded_texts.proofs.StretchLemmas.{parted}
use Rattle.threaded_texts.proofs.adding.+stretches.Goals as goal

pub add_parted-returns : goal.add_parted-returns
add_parted-returns g t c =
    let back = c.last_share-back.result in
    parted (g.T.Texts.text c.args.texts.now) c.args.part.first (c.args.part.count - back) back
    c.args.part.count c.args.to
    c.in_ok-made.made c.in_ok-made_behind.field-0 c.push.new.self
    (omega (arith, c.last_share-back.ensures))
    (rw c.in_ok-made.was at c.join-made_behind.ensures.second)
    (rw c.in_ok-made_behind.was at c.join-made_behind.ensures.first)
    c.in_ok-push.ensures.ok
