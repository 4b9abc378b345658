use Rattle.std.proofs.Common.{◌∙◌, ap, sym}
use Rattle.std.specs.Prelude.{is_some}
use Rattle.std.specs.Option.{option_copied}
use Rattle.context_syntax.specs.ContextRef.{context_lent}
use Rattle.relabel_core.specs.Changes.{context_change, group_change}
use Rattle.relabel_core.specs.Walked.{walk_of}
use Rattle.tree_model.specs.Groups.{group_of}
use Rattle.relabel_core.proofs.ChangeLemmas.{changed_name_is}
use Rattle.relabel_core.proofs.CountLemmas.{some_shown}
use Rattle.relabel_core.proofs.known.Known.is_changed.Goals as goal

pub returns : goal.returns
returns c =
    let known = c.args.self.now in
    let w = walk_of known.input in
    c.is_some.ensures ∙ sym (some_shown context_lent c.group_change.result)
    ∙ ap is_some c.group_change.ensures
    ∙ ap (λ g. is_some (context_change w g (option_copied c.wanted_by_winner.result)))
    c.group.ensures.value
    ∙ ap (λ wants. is_some (context_change w (group_of w.entries known.index) wants))
    c.wanted_by_winner.ensures
    ∙ ap (λ found. is_some (group_change w (group_of w.entries known.index) found))
    known.known.winner_is
    ∙ changed_name_is w known.index
