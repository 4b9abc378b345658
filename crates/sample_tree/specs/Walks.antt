-- A sample of a tree, walked twice.
use Rattle.std.specs.Prelude.{ℕ, zero, suc, ◌+◌, Bool, true, false, List, map, Option, Some, None}
use Rattle.label_base.specs.Bounded.{all_numbers}
use Rattle.context_syntax.specs.declared.label.Label.{Label}
use Rattle.find_records.specs.Record.{Record}
use Rattle.tree_model.specs.Groups.{groups_in}
use Rattle.tree_model.specs.Labelled.{labelled}
use Rattle.report_text.specs.Message.{MessageValue, Relabel, Conflict, Skipped}
use Rattle.relabel_core.specs.Stored.{digests_listed, no_digests}
use Rattle.relabel_core.specs.Walk.{StoredDigests, Walk, walk_count, digests, errors, line}
use Rattle.relabel_core.specs.Walk.{new_label, one_if}
use Rattle.relabel_core.specs.Walked.{walk_for}
use Rattle.sample_tree.specs.Choice.{sample_choice, sample_options}
use Rattle.label_rules.specs.declared.rules.Rules.{Rules}
use Rattle.sample_tree.specs.declared.walks.LineKind.{LineKind}
use Rattle.sample_tree.specs.declared.walks.LineKind.TheVariants as kinds
use Rattle.sample_tree.specs.Summary.{summary_text}
use Rattle.sample_tree.specs.declared.summary.Summary.{Summary}
use Rattle.run_endings.specs.declared.ending.End.TheVariants.{Done}
use Rattle.run_endings.specs.declared.ending.Ending.{Ending}

-- a walk over entries that have these digests
abbrev pub sample_walk : Rules → List Record → StoredDigests → Walk
sample_walk rules entries stored =
    walk_for entries sample_choice rules sample_options stored

-- the first walk, where no digest is stored
unfoldable pub first_walk : Rules → List Record → Walk
first_walk rules entries = sample_walk rules entries no_digests

-- the labels of the groups after a walk
abbrev pub labels_after : Walk → List Label
labels_after w = map (new_label w) (all_numbers (groups_in w.entries))

-- the walk over the tree that another walk leaves, with its labels and its digests
unfoldable pub walk_after : Rules → Walk → Walk
walk_after rules w =
    sample_walk rules (labelled (labels_after w) w.entries) (digests_listed (digests w))

-- ---- what is written

-- the line is of this kind
abbrev pub is_of : LineKind → MessageValue → Bool
is_of kinds.Relabelled (Relabel path from to dry) = true
is_of kinds.Conflicting (Conflict first second used) = true
is_of kinds.Skipping (Skipped path) = true
is_of kind message = false

abbrev pub has_line_of : LineKind → Option MessageValue → Bool
has_line_of kind None = false
has_line_of kind (Some message) = is_of kind message

-- how many entries below n have a line of a kind
abbrev pub lines_below : LineKind → Walk → ℕ → ℕ
lines_below kind w zero = 0
lines_below kind w (suc n) = lines_below kind w n + one_if (has_line_of kind (line w n))

unfoldable pub lines_of_kind : LineKind → Walk → ℕ
lines_of_kind kind w = lines_below kind w (walk_count w)

-- the walk over what the first one leaves
abbrev pub second_walk : Rules → List Record → Walk
second_walk rules entries = walk_after rules (first_walk rules entries)

-- of the first walk the entries, the lines of labels that change, those of conflicts, and the
-- errors; of the second the lines of directories that are skipped, and of labels that change
unfoldable pub summary_of : Walk → ℕ → ℕ → Summary
summary_of first skipped_again relabelled_again = record {
  entries = walk_count first;
  relabelled = lines_of_kind kinds.Relabelled first;
  conflicts = lines_of_kind kinds.Conflicting first;
  errors = errors first;
  skipped_again = skipped_again;
  relabelled_again = relabelled_again;
}

abbrev pub sample_summary : Rules → List Record → Summary
sample_summary rules entries =
    summary_of (first_walk rules entries)
    (lines_of_kind kinds.Skipping (second_walk rules entries))
    (lines_of_kind kinds.Relabelled (second_walk rules entries))

-- what a sample writes, by the rules of its file and the entries of its tree
unfoldable pub sample_ending : Rules → List Record → Ending
sample_ending rules entries = record {
  report = summary_text (sample_summary rules entries);
  end = Done;
  saved = None;
}
