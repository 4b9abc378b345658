use Rattle.std.proofs.Common.{◌∙◌, ap, ◌++◌, [], get_or, sym, append-nil, arith}
use Rattle.std.specs.List.{flat_map}
use Rattle.label_base.specs.Bounded.{all_numbers}
use Rattle.policy_rehearsal.specs.Lent.{rehearsed_lent}
use Rattle.policy_rehearsal.specs.Text.{text_at}
use Rattle.policy_rehearsal.proofs.TextLemmas.{all_turns, next_turn, one_more}
use Rattle.policy_rehearsal.proofs.texts.add_text.Goals as goal

pub versions-init : goal.versions-init
versions-init c = sym (append-nil c.args.text.now)

pub versions-preserved : goal.versions-preserved
versions-preserved c =
    let turns = c.args.rehearsed.now.turns in
    one_more (text_at c.args.tree.now c.args.names.now (rehearsed_lent c.args.rehearsed.now).turns)
    c.args.text.now c.versions.text c.add_turn.new.text c.versions.k
    (next_turn c.args.tree.now c.args.names.now turns c.versions.k c.versions.text
    c.add_turn.new.text _ c.get.result.now
    (c.name_at-name.ensures ∙ ap (λ ns. get_or ns c.versions.k []) c.as_slice.ensures)
    c.get.ensures c.in_ok-add_turn.ensures)
    c.versions.invariant

pub returns : goal.returns
returns c =
    c.versions.invariant
    ∙ ap (λ n. c.args.text.now
    ++ flat_map (text_at c.args.tree.now c.args.names.now
    (rehearsed_lent c.args.rehearsed.now).turns) (all_numbers n))
    (all_turns c.args.rehearsed.now.turns c.versions.k
    (omega (arith, c.versions-test.false, c.len-k-end.ensures)))
