use Rattle.std.proofs.Common.{◌∙◌, ◌++◌, ap, refl, sym}
use Rattle.std.specs.List.{flat_map}
use Rattle.std.proofs.lemmas.List.Folds.{flat_map-map}
use Rattle.path_reasons.specs.Members.{spec_seen}
use Rattle.path_reasons.specs.Texts.{loser_line}
use Rattle.path_reasons.proofs.ListLemmas.{next_part, no_part}
use Rattle.path_reasons.proofs.texts.add_losers.Goals as goal

pub members-preserved : goal.members-preserved
members-preserved c =
    let line = loser_line c.args.names.now c.args.asked c.args.exact in
    next_part (flat_map (λ m. line (spec_seen m))) (λ m. line (spec_seen m)) (λ y ys. refl)
    c.args.members.now c.members.member-index c.member-item.result c.members.text _ _
    c.members-test.true c.member-item.is c.members.invariant c.in_ok-add_loser.ensures

pub returns : goal.returns
returns c =
    let line = loser_line c.args.names.now c.args.asked c.args.exact in
    no_part (flat_map (λ m. line (spec_seen m))) c.args.members.now c.members.member-index
    c.members.text _ refl c.members-test.false c.members.invariant
    ∙ ap (λ t. c.args.text.now ++ t) (sym (flat_map-map line spec_seen c.args.members.now))
