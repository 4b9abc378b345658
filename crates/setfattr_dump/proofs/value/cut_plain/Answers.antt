use Rattle.std.proofs.Common.{arith}
use Rattle.setfattr_dump.proofs.ValueLemmas.{plain_front, plain_whole}
use Rattle.setfattr_dump.proofs.value.cut_plain.Goals as goal

pub returns-in-None-clause-read : goal.returns-in-None-clause-read
returns-in-None-clause-read c = plain_whole c.args.text.now c.in-None.ensures

pub returns-in-Some-clause-read : goal.returns-in-Some-clause-read
returns-in-Some-clause-read c =
    rw (c.split_at.ensures.front, c.split_at.ensures.back)
    (plain_front c.args.text.now c.in-Some.at (omega (arith, c.in-Some.ensures.0.high))
    c.in-Some.ensures.0.before)
