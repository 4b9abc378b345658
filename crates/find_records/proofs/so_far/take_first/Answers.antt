use Rattle.std.proofs.Common.{◌≡◌, ◌∙◌, ap, ◌++◌, ◌∷◌, append_assoc}
use Rattle.find_records.specs.declared.reading.TheConstants.{NUL}
use Rattle.find_records.specs.SoFar.{meant_with}
use Rattle.find_records.proofs.NulCuts.{lacking, no_nul, nul_cut}
use Rattle.find_records.proofs.so_far.take_first.Goals as goal

pub take_ended-requires-clause-unended : goal.take_ended-requires-clause-unended
take_ended-requires-clause-unended c =
    (nul_cut c.args.piece.now c.cut_at.result.0.now c.in-Some.behind.now c.cut_at.ensures.front
    (rw c.in-Some.is at c.cut_at.ensures.behind)).1

pub returns-in_ok-take_ended-in-Some-clause-meant :
    goal.returns-in_ok-take_ended-in-Some-clause-meant
returns-in_ok-take_ended-in-Some-clause-meant c = λ rest.
    let cut = nul_cut c.args.piece.now c.cut_at.result.0.now c.in-Some.behind.now
    c.cut_at.ensures.front (rw c.in-Some.is at c.cut_at.ensures.behind) in
    let text : c.args.piece.now ++ rest ≡ c.cut_at.result.0.now
    ++ NUL ∷ (c.in-Some.behind.now ++ rest) = ap (λ t. t ++ rest) cut.0
    ∙ append_assoc c.cut_at.result.0.now (NUL ∷ c.in-Some.behind.now) rest in
    ap (meant_with c.args.so_far.now) text
    ∙ c.in_ok-take_ended-in-Some.ensures.meant (c.in-Some.behind.now ++ rest)

pub returns-in_ok-push-in-None-clause-sound : goal.returns-in_ok-push-in-None-clause-sound
returns-in_ok-push-in-None-clause-sound c = record {
  few = c.requires.sound.few;
  unended = lacking c.args.so_far.now.pending c.args.piece.now _ c.in_ok-push-in-None.ensures.ok
      c.requires.sound.unended
      (no_nul c.args.piece.now (rw c.in-None.is at c.cut_at.ensures.behind));
}
