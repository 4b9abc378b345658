use Rattle.std.proofs.Common.{arith}
use Rattle.std.proofs.lemmas.List.{nil_from_length}
use Rattle.find_records.proofs.SoFarLemmas.{explained, last_meant, whole_meant}
use Rattle.find_records.proofs.so_far.RecordsSoFar.end.Goals as goal

pub returns-then-len-gt0-clause-answer : goal.returns-then-len-gt0-clause-answer
returns-then-len-gt0-clause-answer c =
    let s = c.args.self in
    explained _ _ (last_meant s.format s.most s.records s.refused s.pending _ c.in-None.is
    (omega (arith, c.if-len-gt0.true, c.len.ensures)) c.requires.unended
    (c.unended.ensures s.format s.pending))

pub returns-clause-answer : goal.returns-clause-answer
returns-clause-answer c =
    let s = c.args.self in
    whole_meant s.format s.most s.records s.refused s.pending c.in-None.is
    (nil_from_length s.pending (omega (arith, c.if-len-gt0.false, c.len.ensures)))
