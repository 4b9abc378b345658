use Rattle.std.proofs.Common.{◌∙◌, ◌<◌, ap, subst, sym}
use Rattle.std.specs.Prelude.{is_some}
use Rattle.context_syntax.specs.ContextRef.{context_lent}
use Rattle.label_rules.specs.Decide.{given_in}
use Rattle.relabel_core.specs.Answer.{walk_in}
use Rattle.relabel_core.proofs.CountLemmas.{some_shown}
use Rattle.policy_rehearsal.specs.Seen.{labels_listed}
use Rattle.policy_rehearsal.proofs.SeenLemmas.{changed_seen}
use Rattle.policy_rehearsal.proofs.TurnLemmas.{entries_over}
use Rattle.policy_rehearsal.proofs.seen.VersionWalkLabelChanges.does_change.Goals as goal

pub verdict_at-requires-clause-entry : goal.verdict_at-requires-clause-entry
verdict_at-requires-clause-entry c =
    let seen = c.args.self.now in
    subst (λ n. c.args.e < n)
    (entries_over (walk_in seen.walked.now) seen.tree.now (labels_listed seen.labels.now)
    c.requires.whole.tree) c.requires.entry

pub returns : goal.returns
returns c =
    let seen = c.args.self.now in
    c.is_some.ensures ∙ sym (some_shown context_lent c.given_in.result)
    ∙ ap is_some c.given_in.ensures
    ∙ ap (λ v. is_some (given_in v)) c.verdict_at.ensures
    ∙ changed_seen (walk_in seen.walked.now) seen.tree.now (labels_listed seen.labels.now) c.args.e
    c.requires.whole.tree c.requires.whole.wet
