use Rattle.std.proofs.Common.{arith}
use Rattle.pattern_match.proofs.Copies.{behind_none}
use Rattle.pattern_match.proofs.fragment.joined.Goals as goal

pub returns-then-by-eq0 : goal.returns-then-by-eq0
returns-then-by-eq0 c =
    behind_none c.args.positions.items c.args.others.items c.in_ok-by.by
    (omega (arith, c.in_ok-by.ensures, c.len.ensures)) c.if-by-eq0.true
