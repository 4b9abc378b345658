use Rattle.std.proofs.Common.{◌<◌, take, length, subst, arith}
use Rattle.std.proofs.lemmas.List.{take_all}
use Rattle.std.proofs.lemmas.Option.{slice_get-get_or}
use Rattle.find_records.specs.Labelled.{ArePaired}
use Rattle.find_records.proofs.LabelledLemmas.{paired_by}
use Rattle.find_records.proofs.labelled.profile_rows.Goals as goal

pub rows-preserved : goal.rows-preserved
rows-preserved c = record {
  few = c.in_ok-profile.ensures.few;
  paired = λ texts labels places within.
      let next : c.rows.i < length c.args.rows.now =
      omega (arith, c.rows-test.true, c.rows.auto.i-end) in
      paired_by texts c.args.profiles.now c.args.rows.now c.args.numbers.now labels c.rows.i _
      c.rows.profiled.profiles.items c.number_guessed.new.rows.items c.in_ok-profile.profile
      c.rows.profiled.rows.items c.push.new.self.items
      c.requires.counted places within next (slice_get-get_or c.args.rows.now c.rows.i _ next)
      _ c.get-given.ensures c.in_ok-profile.ensures.number c.in_ok-profile.ensures.with
      c.in_ok-profile.ensures.few c.in_ok-push.ensures.items
      (c.rows.invariant.paired texts labels places within);
}

pub returns : goal.returns
returns c = λ texts labels places within.
    let rows_end =
    take_all c.rows.i c.args.rows.now (omega (arith, c.rows-test.false, c.rows.auto.i-end)) in
    let numbers_end =
    take_all c.rows.i c.args.numbers.now
    (omega (arith, c.rows-test.false, c.rows.auto.i-end, c.requires.counted)) in
    subst (λ rs. ArePaired texts c.args.profiles.now rs c.args.numbers.now labels
    c.rows.profiled.profiles.items c.rows.profiled.rows.items) rows_end
    (subst (λ ns. ArePaired texts c.args.profiles.now (take c.rows.i c.args.rows.now) ns labels
    c.rows.profiled.profiles.items c.rows.profiled.rows.items) numbers_end
    (c.rows.invariant.paired texts labels places within))
