-- A walk over a tree whose groups have other labels by now.
use Rattle.std.specs.Prelude.{◌≡◌, ℕ, Bool, false, List, length, slice_get, Option, Some, None}
use Rattle.context_syntax.specs.Context.{ContextValue}
use Rattle.context_syntax.specs.TypeNames.{NameSet}
use Rattle.context_syntax.specs.declared.label.Label.{Label}
use Rattle.context_syntax.specs.declared.label.Label.TheVariants.{Absent}
use Rattle.label_rules.specs.Decide.{VerdictValue, Keep, verdict_for}
use Rattle.label_rules.specs.LabelAfter.{label_seen}
use Rattle.label_rules.specs.declared.label_after.LabelAfter.{LabelAfter}
use Rattle.tree_model.specs.Groups.{groups_in}
use Rattle.relabel_core.specs.Answer.{walk_in}
use Rattle.relabel_core.specs.Walk.{Walk}
use Rattle.relabel_runs.specs.Runs.{tree_labelled}
use Rattle.policy_rehearsal.specs.declared.seen.VersionWalk.{VersionWalk}

abbrev pub label_or_none : Option LabelAfter → Label
label_or_none None = Absent
label_or_none (Some label) = label_seen label

-- the labels of the groups by their numbers
abbrev pub labels_listed : List LabelAfter → ℕ → Label
labels_listed labels g = label_or_none (slice_get labels g)

-- the same walk over the tree with other labels of its groups
abbrev pub walk_over : Walk → (ℕ → Label) → Walk
walk_over w labels = record w { entries = tree_labelled w.entries labels }

-- the walk over the tree with the labels that its groups have by now
abbrev pub walk_seen : VersionWalk → Walk
walk_seen seen = walk_over (walk_in seen.walked.now) (labels_listed seen.labels.now)

-- the verdict on a label where this context is wanted
abbrev pub verdict_wanted : Label → Option ContextValue → (force : Bool) → NameSet → VerdictValue
verdict_wanted label None force types = Keep
verdict_wanted label (Some wanted) force types = verdict_for label wanted force types

-- the walk was over this tree by these rules, and changes labels; each group has a label
pub record IsSeen (seen : VersionWalk) : Type 0 where
  pub tree : (walk_in seen.walked.now).entries ≡ seen.tree.now
  pub rules : (walk_in seen.walked.now).rules ≡ seen.rules.now
  pub force : (walk_in seen.walked.now).options.force ≡ seen.force
  pub wet : (walk_in seen.walked.now).options.dry ≡ false
  pub each_group : length seen.labels.now ≡ groups_in seen.tree.now
