use Rattle.std.proofs.Common.{◌≡◌, ◌∙◌, ◌++◌, ◌+◌, ◌-◌, ap, arith, drop, length, length-drop, map}
use Rattle.std.specs.List.{flat_map}
use Rattle.std.proofs.lemmas.List.{take_all}
use Rattle.std.proofs.lemmas.Result.{on_ok_weaker}
use Rattle.path_reasons.specs.Blocks.{is_decided_exactly}
use Rattle.path_reasons.specs.Members.{spec_seen}
use Rattle.path_reasons.specs.Texts.{loser_line}
use Rattle.path_reasons.proofs.ListLemmas.{made_of_others}
use Rattle.path_reasons.proofs.blocks.add_others.Goals as goal

pub returns : goal.returns
returns c =
    let told = c.args.told.now in
    let place = c.place_for-place.result in
    let behind = drop (place + 1) told.members.now in
    let line = loser_line told.names.now c.args.kind in
    let short : length behind ≡ length told.members.now - (place + 1) =
    length-drop (place + 1) told.members.now in
    on_ok_weaker c.add_losers-2.result (λ fact.
    made_of_others spec_seen line told.members.now c.is_decided_exactly-exact.result _ place _
    c.args.text.now c.add_losers.new.text c.add_losers-2.new.text
    (c.is_decided_exactly-exact.ensures ∙ ap is_decided_exactly c.decided_by.ensures)
    c.place_for-place.ensures.value c.in_ok-add_losers.ensures
    (fact ∙ ap (λ ms. c.add_losers.new.text
    ++ flat_map (line c.is_decided_exactly-exact.result) (map spec_seen ms))
    (take_all (length told.members.now - (place + 1)) behind (omega (arith, short)))))
    c.add_losers-2.ensures
