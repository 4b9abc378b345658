use Rattle.std.proofs.Common.{◌∙◌, arith}
use Rattle.relabel_core.specs.Walk.{winner}
use Rattle.relabel_core.specs.Walked.{walk_of}
use Rattle.relabel_workers.proofs.PutLemmas.{put_more, winner_few, winner_small}
use Rattle.relabel_workers.proofs.put_back.put_winners.Goals as goal

pub groups-preserved : goal.groups-preserved
groups-preserved c = record {
  room = c.put_winner.ensures.winners.room ∙ c.groups.invariant.room;
  put = put_more (winner (walk_of c.args.input.now)) _ _ c.groups.g c.winner_in.result
      (let room = c.groups.invariant.room in let test = c.groups-test.true in
      let count = c.groups-g-end.ensures in omega (arith, room, test, count))
      c.groups.invariant.put
      c.put_winner.ensures.winners
      (c.winner_in.ensures ∙ c.requires.winners.each c.groups.g
      (let test = c.groups-test.true in let count = c.groups-g-end.ensures in
      omega (arith, test, count)));
  decided = c.put_winner.ensures.decided ∙ c.groups.invariant.decided;
}

pub winner_in-requires-clause-few : goal.winner_in-requires-clause-few
winner_in-requires-clause-few c =
    winner_small (walk_of c.args.input.now) c.groups.g _
    (c.requires.winners.each c.groups.g (let test = c.groups-test.true in
    let count = c.groups-g-end.ensures in omega (arith, test, count)))
    (let few = c.requires.fit.few in omega (arith, few))

pub put_winner-requires : goal.put_winner-requires
put_winner-requires c = record {
  few = winner_few (walk_of c.args.input.now) c.groups.g c.winner_in.result
      (c.winner_in.ensures ∙ c.requires.winners.each c.groups.g (let test = c.groups-test.true in
      let count = c.groups-g-end.ensures in omega (arith, test, count)))
      (let few = c.requires.fit.few in omega (arith, few));
}
