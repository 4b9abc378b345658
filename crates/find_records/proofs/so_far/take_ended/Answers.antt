use Rattle.std.proofs.Common.{◌≡◌, ◌∙◌, ap, sym, ◌++◌, [], arith}
use Rattle.std.proofs.lemmas.List.{nil_from_length}
use Rattle.find_records.proofs.NulCuts.{lacking}
use Rattle.find_records.proofs.SoFarLemmas.{taken_ended}
use Rattle.find_records.proofs.so_far.take_ended.Goals as goal

pub returns-then-len-eq0-clause-meant : goal.returns-then-len-eq0-clause-meant
returns-then-len-eq0-clause-meant c =
    let s = c.args.so_far.now in
    let nothing : s.pending ≡ [] =
    nil_from_length s.pending (omega (arith, c.if-len-eq0.true, c.len.ensures)) in
    taken_ended s.format s.most s.records c.add_or_refuse.new.records s.refused
    c.in_ok-so_far.field-0 s.pending c.args.bytes.now c.args.bytes.now s.pending
    c.requires.none (ap (λ t. t ++ c.args.bytes.now) (sym nothing)) nothing c.requires.unended
    c.in_ok-so_far.ensures.added

pub returns-clause-meant : goal.returns-clause-meant
returns-clause-meant c =
    let s = c.args.so_far.now in
    let whole : c.as_slice-whole.result.now ≡ s.pending ++ c.args.bytes.now =
    c.as_slice-whole.ensures ∙ c.in_ok-push.ensures.ok in
    taken_ended s.format s.most s.records c.add_or_refuse-2.new.records s.refused
    c.in_ok-so_far-2.field-0 s.pending c.args.bytes.now c.as_slice-whole.result.now c.new.result
    c.requires.none whole c.new.ensures
    (lacking s.pending c.args.bytes.now c.as_slice-whole.result.now whole
    c.requires.sound.unended c.requires.unended) c.in_ok-so_far-2.ensures.added
