-- Which directories a run takes as closed.
use Rattle.std.proofs.Common.{◌≡◌, ◌==◌, ℕ, true, ◌&&◌, ◌||◌, List, length, filter, eq-eqb}
use std.Path.{fun_ext}
use Rattle.std.proofs.lemmas.Bool.{and_parts}
use Rattle.label_base.specs.Bounded.{all_below, all_numbers, implies}
use Rattle.label_base.specs.Kind.{same_kind}
use Rattle.label_base.specs.declared.kind.EntryKind.TheVariants.{Directory}
use Rattle.label_base.proofs.BoundedLemmas.{all_at, implies_at}
use Rattle.file_paths.specs.Path.{at_or_below}
use Rattle.context_syntax.specs.declared.label.Label.{Label}
use Rattle.find_records.specs.Record.{Record}
use Rattle.tree_model.specs.Extents.{in_extent}
use Rattle.tree_model.specs.Groups.{closed_at, group_of, holds_groups, holds_names, is_met}
use Rattle.skip_runs.specs.Skipping.{HoldsGroups}
use Rattle.relabel_runs.specs.Runs.{tree_labelled}
use Rattle.relabel_runs.proofs.OutlineLemmas.{SameOutline, count_same, group_same, kinds_same}
use Rattle.relabel_runs.proofs.OutlineLemmas.{links_at, paths_same}
use Rattle.relabel_runs.proofs.LabelledLemmas.{alike_labelled, links_labelled}
use Rattle.relabel_runs.proofs.WalkLemmas.{tree_of}

-- trees that are the same but for labels have the same closed directories
closed_alike : (a b : List Record) → SameOutline a b → links_at a ≡ links_at b
    → closed_at a ≡ closed_at b
closed_alike a b alike links =
    let count = count_same a b alike in
    let paths = paths_same a b alike in
    let kinds = kinds_same a b alike in
    let groups : group_of a ≡ group_of b = fun_ext (λ e. group_same a b e alike) in
    fun_ext (λ d i.
    all_below (count i) (λ e. implies (at_or_below (paths i e) (paths i d))
    (all_below (count i)
    (λ x. implies (groups i x == groups i e) (at_or_below (paths i x) (paths i d)))))
    && all_below (count i) (λ e. implies (at_or_below (paths i e) (paths i d))
    (same_kind (kinds i e) Directory || is_met (links i e)
    (length (filter (λ x. groups i x == groups i e) (all_numbers (count i)))))))

pub closed_seen : (entries : List Record) (labels : ℕ → Label)
    → closed_at (tree_labelled entries labels) ≡ closed_at entries
closed_seen entries labels =
    closed_alike (tree_labelled entries labels) entries (alike_labelled entries labels)
    (links_labelled entries labels)

-- a group that meets a closed directory's extent lies in it
pub closed_holds : (entries : List Record) (d : ℕ) → closed_at entries d ≡ true
    → HoldsGroups (tree_of entries) d
closed_holds entries d h e x le lx i g =
    let n = length entries in
    let held = (and_parts (holds_groups entries d) (holds_names entries d) h).0 in
    let inner = implies_at (in_extent entries d e)
    (all_below n
    (λ x. implies (group_of entries x == group_of entries e) (in_extent entries d x)))
    (all_at n (λ e. implies (in_extent entries d e)
    (all_below n
    (λ x. implies (group_of entries x == group_of entries e) (in_extent entries d x)))) e held
    le) i in
    implies_at (group_of entries x == group_of entries e) (in_extent entries d x)
    (all_at n (λ x. implies (group_of entries x == group_of entries e) (in_extent entries d x)) x
    inner lx)
    (eq-eqb (group_of entries x) (group_of entries e) g)
