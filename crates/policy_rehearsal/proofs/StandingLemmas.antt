-- A rehearsal, version by version.
use Rattle.std.proofs.Common.{◌≡◌, ◌∙◌, ap, ap₂, sym, subst, refl, ℕ, zero, suc, ◌+◌, ◌<◌}
use Rattle.std.proofs.Common.{List, [], ◌∷◌, ◌++◌, length, map, get_or, take, arith}
use Rattle.std.specs.Prelude.{false, slice_get, Some, None, Result, Ok, Err, IfOk}
use Rattle.std.proofs.lemmas.List.{ext_get_or, length-map, map-append, take_more}
use Rattle.std.proofs.lemmas.Option.{get_or_from_slice_get}
use Rattle.label_base.specs.Bounded.{all_numbers}
use Rattle.label_base.proofs.BoundedLemmas.{count_numbers}
use Rattle.context_syntax.specs.declared.label.Label.{Label}
use Rattle.context_syntax.specs.declared.label.Label.TheVariants.{Absent}
use Rattle.find_records.specs.Record.{AreOfFormat, CountsBy, Record}
use Rattle.find_records.specs.declared.format.Format.{Format}
use Rattle.find_records.specs.declared.format.Format.TheVariants.{One, Two}
use Rattle.tree_model.specs.Extents.{is_directory}
use Rattle.tree_model.specs.Groups.{groups_in, label_in}
use Rattle.tree_model.specs.Labelled as tree
use Rattle.tree_model.specs.declared.choice.Choice.{Choice}
use Rattle.tree_model.proofs.GroupLemmas.{has_first}
use Rattle.tree_model.proofs.LabelledLemmas.{mapped_at}
use Rattle.label_rules.specs.LabelAfter.{label_seen}
use Rattle.label_rules.specs.declared.label_after.LabelAfter.{LabelAfter}
use Rattle.label_rules.specs.declared.rules.Rules.{Rules}
use Rattle.relabel_core.specs.declared.options.Options.{Options}
use Rattle.relabel_core.specs.Stored.{digests_of, no_digests}
use Rattle.relabel_core.specs.Walk.{StoredDigests, Walk, digest_after, new_label}
use Rattle.relabel_core.specs.Walked.{operands_indexed, walk_for}
use Rattle.relabel_runs.proofs.RunLemmas.{skipping_keeps_labels}
use Rattle.relabel_runs.specs.Runs.{TreeRun, TreeState, state_after, end, end_off, tree_labelled}
use Rattle.relabel_runs.specs.Runs.{links_read, records_read_as, walk_at}
use Rattle.policy_rehearsal.specs.Lent.{rehearsed_lent, turn_lent}
use Rattle.policy_rehearsal.specs.Rehearsal.{RunsKeepLabels, RehearsedValue, bare_state}
use Rattle.policy_rehearsal.specs.Rehearsal.{rehearsed_by, rehearsed_run, runs_of, turn_in}
use Rattle.policy_rehearsal.specs.Rehearsal.{turns_from}
use Rattle.policy_rehearsal.specs.Seen.{labels_listed, walk_over}
use Rattle.policy_rehearsal.specs.Standing.{IsAt, IsStandingKept, IsRunTaken}
use Rattle.policy_rehearsal.specs.declared.rehearsal.Standing.{Standing}
use Rattle.policy_rehearsal.specs.declared.rehearsal.Taken.{Taken}
use Rattle.policy_rehearsal.specs.declared.rehearsed.Rehearsed.{Rehearsed}
use Rattle.policy_rehearsal.specs.declared.rehearsed.VersionChanges.{VersionChanges}
use Rattle.policy_rehearsal.proofs.TurnLemmas.{none_after, none_over}
use Rattle.policy_rehearsal.proofs.Unlabelled.{differs}

-- ---- the walk of a version

whole_record : (format : Format) (entry : Record) → CountsBy format entry.links
    → record entry { links = links_read format entry.links } ≡ entry
whole_record One entry none = λ i. record entry { links = sym none i }
whole_record Two entry some = refl

-- records of the format are read whole
whole_tree : (format : Format) (entries : List Record) → AreOfFormat format entries
    → records_read_as format entries ≡ entries
whole_tree format [] of_format = refl
whole_tree format (e ∷ es) of_format =
    ap₂ (λ entry rest. entry ∷ rest) (whole_record format e of_format.0)
    (whole_tree format es of_format.1)

pub same_below : {X : Type 0} (f h : ℕ → X) (n : ℕ) → ((k : ℕ) → k < n → f k ≡ h k)
    → map f (all_numbers n) ≡ map h (all_numbers n)
same_below f h zero same = refl
same_below f h (suc n) same =
    map-append f (all_numbers n) (n ∷ [])
    ∙ ap₂ (λ front last. front ++ last ∷ []) (same_below f h n (λ k l. same k (omega (arith, l))))
    (same n (omega arith))
    ∙ sym (map-append h (all_numbers n) (n ∷ []))

-- only the labels of groups that are there count
pub labelled_alike : (entries : List Record) (f h : ℕ → Label)
    → ((g : ℕ) → g < groups_in entries → f g ≡ h g) → tree_labelled entries f ≡ tree_labelled
    entries h
labelled_alike entries f h same =
    ap (λ labels. tree.labelled labels entries) (same_below f h (groups_in entries) same)

-- the walk over the tree in a state is the walk over the tree as it was with other labels
pub walk_is : (entries : List Record) (s : TreeState) (run : TreeRun) (labels : ℕ → Label)
    (stored : StoredDigests) → AreOfFormat run.options.format entries
    → ((g : ℕ) → g < groups_in entries → labels g ≡ s.labels g) → stored ≡ s.digests
    → walk_over (walk_for entries run.choice run.rules run.options stored) labels ≡ walk_at entries
    s run
walk_is entries s run labels stored of_format same now =
    let d = differs entries s.labels in
    subst (λ es. walk_over (walk_for entries run.choice run.rules run.options stored) labels
    ≡ walk_for (tree_labelled es s.labels) run.choice run.rules run.options s.digests)
    (sym (whole_tree run.options.format entries of_format))
    (λ i. record {
      entries = labelled_alike entries labels s.labels same i;
      live = (sym (d.selected run.choice) i).live;
      absent = operands_indexed run.choice.operands (sym (d.selected run.choice) i).absent;
      rules = run.rules;
      options = run.options;
      stored = now i;
    })

-- ---- one version more

-- where the runs so far are a front of all
pub end_more : (entries : List Record) (s : TreeState) (runs : List TreeRun) (run : TreeRun)
    → end entries s (runs ++ run ∷ []) ≡ state_after entries (end entries s runs) run
end_more entries s [] run = refl
end_more entries s (first ∷ runs) run = end_more entries (state_after entries s first) runs run

pub turns_more : (entries : List Record) (s : TreeState) (runs : List TreeRun) (run : TreeRun)
    → turns_from entries s (runs ++ run ∷ []) ≡ turns_from entries s runs
    ++ turn_in (walk_at entries (end entries s runs) run) ∷ []
turns_more entries s [] run = refl
turns_more entries s (first ∷ runs) run =
    ap (λ rest. turn_in (walk_at entries s first) ∷ rest)
    (turns_more entries (state_after entries s first) runs run)

-- ---- labels by the numbers of their groups

shown_at : (labels : List LabelAfter) (g : ℕ) → labels_listed labels g
    ≡ get_or (map label_seen labels) g Absent
shown_at [] zero = refl
shown_at [] (suc g) = refl
shown_at (label ∷ labels) zero = refl
shown_at (label ∷ labels) (suc g) = shown_at labels g

pub listed_at : (labels : List LabelAfter) (f : ℕ → Label) (n g : ℕ) → map label_seen labels
    ≡ map f (all_numbers n) → g < n → labels_listed labels g ≡ f g
listed_at labels f n g is l =
    shown_at labels g ∙ ap (λ ls. get_or ls g Absent) is ∙ mapped_at f n g Absent l

pub count_listed : (labels : List LabelAfter) (f : ℕ → Label) (n : ℕ) → map label_seen labels
    ≡ map f (all_numbers n) → length labels ≡ n
count_listed labels f n is =
    sym (length-map labels label_seen) ∙ ap length is ∙ length-map (all_numbers n) f
    ∙ count_numbers n

pub all_listed : (labels : List LabelAfter) (f : ℕ → Label) (n : ℕ) → length labels ≡ n
    → ((g : ℕ) → g < n → labels_listed labels g ≡ f g) → map label_seen labels
    ≡ map f (all_numbers n)
all_listed labels f n counted each =
    let sized = length-map labels label_seen in
    ext_get_or Absent (map label_seen labels) (map f (all_numbers n))
    (sized ∙ counted ∙ sym (count_numbers n) ∙ sym (length-map (all_numbers n) f))
    (λ g l.
    let within : g < n = omega (arith, l, sized, counted) in
    sym (shown_at labels g) ∙ each g within ∙ sym (mapped_at f n g Absent within))

-- ---- skipping changes no label

pub keeps_labels : (entries : List Record) (runs : List TreeRun)
    → RunsKeepLabels entries runs
    (map (end entries (bare_state entries) runs).labels (all_numbers (groups_in entries)))
keeps_labels entries runs are =
    let n = groups_in entries in
    let s = bare_state entries in
    ext_get_or Absent (map (end entries s runs).labels (all_numbers n))
    (map (end_off entries s runs).labels (all_numbers n))
    (length-map (all_numbers n) (end entries s runs).labels
    ∙ sym (length-map (all_numbers n) (end_off entries s runs).labels))
    (λ g l.
    let within : g < n =
    omega (arith, l, length-map (all_numbers n) (end entries s runs).labels, count_numbers n) in
    let first = has_first entries g within in
    mapped_at (end entries s runs).labels n g Absent within
    ∙ subst (λ k. (end entries s runs).labels k ≡ (end_off entries s runs).labels k) first.own
    (skipping_keeps_labels entries runs are s (λ d. refl) _ first.within)
    ∙ sym (mapped_at (end_off entries s runs).labels n g Absent within))

-- ---- the turn of a version

-- what a turn leaves is kept
pub kept_after : {E : Type 0} (w : Walk) (tree : List Record) (labels : ℕ → Label)
    (result : Result Taken E) → w.entries ≡ tree
    → ((e : ℕ) → is_directory tree e ≡ false → w.stored e ≡ None)
    → IfOk result (λ taken. map label_seen taken.left.labels ≡ map (new_label (walk_over w labels))
    (all_numbers (groups_in tree)))
    → IfOk result (λ taken. digests_of taken.left.stored ≡ digest_after (walk_over w labels))
    → IfOk result (λ taken. IsStandingKept tree taken.left)
kept_after w tree labels (Err fault) own none labels_are digests_are = tt
kept_after w tree labels (Ok taken) own none labels_are digests_are = record {
  each_group = count_listed taken.left.labels (new_label (walk_over w labels)) (groups_in tree)
      labels_are;
  directories = λ e other. ap (λ d. d e) digests_are
      ∙ none_after (walk_over w labels) (none_over w tree labels own none) e
      ((differs w.entries labels).directories e ∙ ap (λ es. is_directory es e) own ∙ other);
}

-- it is the turn of its run over the tree as it stands
pub taken_after : {E : Type 0} (w : Walk) (tree : List Record) (s : TreeState) (run : TreeRun)
    (at : Standing) (result : Result Taken E)
    → AreOfFormat run.options.format tree → w ≡ walk_for tree run.choice run.rules run.options
    (digests_of at.stored)
    → IfOk result (λ taken. turn_lent taken.turn ≡ turn_in (walk_over w (labels_listed at.labels)))
    → IfOk result
    (λ taken. map label_seen taken.left.labels
    ≡ map (new_label (walk_over w (labels_listed at.labels))) (all_numbers (groups_in tree)))
    → IfOk result
    (λ taken. digests_of taken.left.stored ≡ digest_after
    (walk_over w (labels_listed at.labels)))
    → IsAt tree s at → IfOk result (IsRunTaken tree s run)
taken_after w tree s run at (Err fault) of_format is turn labels_are digests_are now = tt
taken_after w tree s run at (Ok taken) of_format is turn labels_are digests_are now =
    let labels = labels_listed at.labels in
    let same : walk_over w labels ≡ walk_at tree s run =
    ap (λ v. walk_over v labels) is ∙ walk_is tree s run labels (digests_of at.stored) of_format
    now.labels_are now.digests_are in
    record {
      turn = turn ∙ ap turn_in same;
      left = record {
        labels_are = λ g l.
            listed_at taken.left.labels (new_label (walk_over w labels)) (groups_in tree) g
            labels_are l
            ∙ ap (λ v. new_label v g) same;
        digests_are = digests_are ∙ ap digest_after same;
      };
    }

-- ---- all turns

pub runs_more : (choice : Choice) (options : Options) (policies : List Rules) (k : ℕ)
    (rules : Rules) → k < length policies → slice_get policies k ≡ Some rules
    → runs_of choice options (take (k + 1) policies) ≡ runs_of choice options (take k policies)
    ++ rehearsed_run choice options rules ∷ []
runs_more choice options policies k rules l is =
    ap (runs_of choice options) (take_more policies k rules l ∙ ap (λ r. take k policies ++ r ∷ [])
    (get_or_from_slice_get policies k rules rules is))
    ∙ map-append (rehearsed_run choice options) (take k policies) (rules ∷ [])

pub at_more : (tree : List Record) (runs more : List TreeRun) (run : TreeRun) (at : Standing)
    → more ≡ runs ++ run ∷ []
    → IsAt tree (state_after tree (end tree (bare_state tree) runs) run) at
    → IsAt tree (end tree (bare_state tree) more) at
at_more tree runs more run at is now =
    subst (λ s. IsAt tree s at)
    (sym (ap (end tree (bare_state tree)) is ∙ end_more tree (bare_state tree) runs run)) now

pub shown_more : (tree : List Record) (runs more : List TreeRun) (run : TreeRun)
    (turns now : List VersionChanges) (turn : VersionChanges) → more ≡ runs ++ run ∷ []
    → now ≡ turns ++ turn ∷ [] → map turn_lent turns ≡ turns_from tree (bare_state tree) runs
    → turn_lent turn ≡ turn_in (walk_at tree (end tree (bare_state tree) runs) run)
    → map turn_lent now ≡ turns_from tree (bare_state tree) more
shown_more tree runs more run turns now turn is added so_far this =
    ap (map turn_lent) added ∙ map-append turn_lent turns (turn ∷ [])
    ∙ ap₂ (λ front last. front ++ last ∷ []) so_far this
    ∙ sym (turns_more tree (bare_state tree) runs run)
    ∙ ap (turns_from tree (bare_state tree)) (sym is)

pub all_shown : (tree : List Record) (runs : List TreeRun) (shown : Rehearsed) (at : Standing)
    → shown.labels ≡ at.labels
    → map turn_lent shown.turns ≡ turns_from tree (bare_state tree) runs → IsStandingKept tree at
    → IsAt tree (end tree (bare_state tree) runs) at
    → rehearsed_lent shown ≡ rehearsed_by tree runs
all_shown tree runs shown at same turns kept now =
    let labels_are : map label_seen shown.labels ≡ map (end tree (bare_state tree) runs).labels
    (all_numbers (groups_in tree)) =
    ap (map label_seen) same
    ∙ all_listed at.labels (end tree (bare_state tree) runs).labels (groups_in tree) kept.each_group
    now.labels_are in
    λ i. record { turns = turns i; labels = labels_are i }

pub first_at : (tree : List Record) (at : Standing) → map label_seen at.labels ≡ map (label_in tree)
    (all_numbers (groups_in tree))
    → digests_of at.stored ≡ no_digests → IsAt tree (bare_state tree) at
first_at tree at labels_are none = record {
  labels_are = λ g l. listed_at at.labels (label_in tree) (groups_in tree) g labels_are l;
  digests_are = none;
}

pub first_kept : (tree : List Record) (at : Standing) → map label_seen at.labels
    ≡ map (label_in tree) (all_numbers (groups_in tree))
    → digests_of at.stored ≡ no_digests → IsStandingKept tree at
first_kept tree at labels_are none = record {
  each_group = count_listed at.labels (label_in tree) (groups_in tree) labels_are;
  directories = λ e other. ap (λ d. d e) none;
}

pub kept_shown : {E : Type 0} (tree : List Record) (runs : List TreeRun)
    (result : Result Rehearsed E)
    → IfOk result (λ shown. rehearsed_lent shown ≡ rehearsed_by tree runs)
    → IfOk result (λ shown. RunsKeepLabels tree runs (rehearsed_lent shown).labels)
kept_shown tree runs (Err fault) is = tt
kept_shown tree runs (Ok shown) is = λ are. ap (λ (v : RehearsedValue). v.labels) is
    ∙ keeps_labels tree runs are
