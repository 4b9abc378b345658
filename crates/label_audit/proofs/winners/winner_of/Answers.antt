use Rattle.std.proofs.Common.{◌≡◌, ◌∙◌, ◌<◌, ap, arith, false, refl, subst, sym}
use Rattle.tree_model.specs.Groups.{group_of, names_in}
use Rattle.relabel_core.specs.Walk.{walk_count, is_skipped}
use Rattle.relabel_core.specs.Walked.{walk_of}
use Rattle.label_audit.specs.Winners.{winner_if}
use Rattle.label_audit.proofs.GroupLemmas.{name_fails, name_left, name_wins, name_within}
use Rattle.label_audit.proofs.GroupLemmas.{no_name_wins}
use Rattle.label_audit.proofs.winners.winner_of.Goals as goal

pub first_winner-requires-clause-entry : goal.first_winner-requires-clause-entry
first_winner-requires-clause-entry c =
    let w = walk_of c.args.input.now in
    subst (λ k. k < walk_count w) (sym c.first_of-first.ensures)
    (name_within w (group_of w.entries c.args.own.entry) c.names_of-names.result.now 0
    (c.names_of-names.ensures.value ∙ ap (names_in w.entries) c.group.ensures.value)
    c.names_of-names.ensures.some)

pub first_winner-requires-clause-left : goal.first_winner-requires-clause-left
first_winner-requires-clause-left c =
    let w = walk_of c.args.input.now in
    subst (λ k. is_skipped w k ≡ false) (sym c.first_of-first.ensures)
    (name_left w c.args.own.entry c.names_of-names.result.now 0
    (c.names_of-names.ensures.value ∙ ap (names_in w.entries) c.group.ensures.value)
    c.names_of-names.ensures.some c.requires.entry c.requires.left)

pub returns-then-is_some-clause-found : goal.returns-then-is_some-clause-found
returns-then-is_some-clause-found c =
    let w = walk_of c.args.input.now in
    name_wins w (group_of w.entries c.args.own.entry) c.names_of-names.result.now 0
    c.in_ok-found.found
    (c.names_of-names.ensures.value ∙ ap (names_in w.entries) c.group.ensures.value)
    c.names_of-names.ensures.some refl
    (c.in_ok-found.ensures.found ∙ ap (winner_if w) c.first_of-first.ensures)
    (sym c.is_some.ensures ∙ c.if-is_some.true)

pub returns-then-names-eq1-clause-found : goal.returns-then-names-eq1-clause-found
returns-then-names-eq1-clause-found c =
    let w = walk_of c.args.input.now in
    let names = c.names_of-names.result.now in
    no_name_wins w (group_of w.entries c.args.own.entry) names 1
    (c.names_of-names.ensures.value ∙ ap (names_in w.entries) c.group.ensures.value)
    (omega (arith, c.if-names-eq1.true))
    (name_fails w names 0 c.in_ok-found.found c.names_of-names.ensures.some refl
    (c.in_ok-found.ensures.found ∙ ap (winner_if w) c.first_of-first.ensures)
    (sym c.is_some.ensures ∙ c.if-is_some.false))
