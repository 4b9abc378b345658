-- A tree as a run sees it: with a state's labels, and with link counts where the run reads them.
use Rattle.std.proofs.Common.{◌≡◌, ◌∙◌, ap, sym, refl, subst, ℕ, ◌<◌, ◌==◌, Bool, List, [], ◌∷◌}
use Rattle.std.proofs.Common.{length, map, get_or, Option, Some, None, arith, eq-eqb, eqb-true, inl}
use Rattle.std.proofs.Common.{inr}
use std.Path.{fun_ext}
use Rattle.std.proofs.lemmas.Bool.{cases_lt, false≢true}
use Rattle.std.proofs.lemmas.List.{ext_get_or, get_or-map, length-map}
use Rattle.std.proofs.Math.ListN.{get_or-eq_default}
use Rattle.label_base.specs.Bounded.{all_numbers, least_below}
use Rattle.label_base.proofs.BoundedLemmas.{IsLeast, count_numbers, least_shown}
use Rattle.context_syntax.specs.declared.label.Label.{Label}
use Rattle.context_syntax.specs.declared.label.Label.TheVariants.{Absent}
use Rattle.find_records.specs.Labelled.{with_label}
use Rattle.find_records.specs.Places.{no_record}
use Rattle.find_records.specs.Record.{Record}
use Rattle.find_records.specs.declared.format.Format.{Format}
use Rattle.tree_model.specs.Extents.{entry_at}
use Rattle.tree_model.specs.Groups.{group_of, groups_in, label_at, label_in}
use Rattle.tree_model.specs.Labelled as tree
use Rattle.tree_model.proofs.GroupLemmas.{group_at, group_inside}
use Rattle.tree_model.proofs.LabelledLemmas.{mapped_at}
use Rattle.relabel_runs.specs.Runs.{tree_labelled, records_read_as}
use Rattle.relabel_runs.proofs.OutlineLemmas.{SameOutline, count_same, group_same, links_at}
use Rattle.relabel_runs.proofs.OutlineLemmas.{outline}

count_labelled : (entries : List Record) (labels : List Label)
    → length (tree.labelled labels entries) ≡ length entries
count_labelled entries labels =
    length-map (all_numbers (length entries)) (tree.labelled_at labels entries)
    ∙ count_numbers (length entries)

-- a part of each record that its label is no part of
part_kept : {X : Type 0} (f : Record → X)
    → ((label : Label) (r : Record) → f (with_label label r) ≡ f r)
    → (entries : List Record) (labels : List Label)
    → map f (tree.labelled labels entries) ≡ map f entries
part_kept f same entries labels =
    let new = tree.labelled labels entries in
    let count = count_labelled entries labels in
    ext_get_or (f no_record) (map f new) (map f entries)
    (length-map new f ∙ count ∙ sym (length-map entries f))
    (λ e l.
    let within : e < length entries = omega (arith, l, length-map new f, count) in
    get_or-map f new e no_record (f no_record) (omega (arith, within, count))
    ∙ ap f (mapped_at (tree.labelled_at labels entries) (length entries) e no_record within)
    ∙ same (get_or labels (group_of entries e) Absent) (entry_at entries e)
    ∙ sym (get_or-map f entries e no_record (f no_record) within))

abbrev listed : List Record → (ℕ → Label) → List Label
listed entries labels = map labels (all_numbers (groups_in entries))

pub alike_labelled : (entries : List Record) (labels : ℕ → Label)
    → SameOutline (tree_labelled entries labels) entries
alike_labelled entries labels = part_kept outline (λ label r. refl) entries (listed entries labels)

pub alike_read : (format : Format) (entries : List Record)
    → SameOutline (records_read_as format entries) entries
alike_read format [] = refl
alike_read format (e ∷ es) = ap (λ rest. outline e ∷ rest) (alike_read format es)

-- labels aside, the tree that a run sees
pub alike_seen : (format : Format) (entries : List Record) (labels : ℕ → Label)
    → SameOutline (tree_labelled (records_read_as format entries) labels) entries
alike_seen format entries labels = alike_labelled (records_read_as format entries) labels
    ∙ alike_read format entries

pub links_labelled : (entries : List Record) (labels : ℕ → Label)
    → links_at (tree_labelled entries labels) ≡ links_at entries
links_labelled entries labels =
    let new = tree_labelled entries labels in
    let count = count_labelled entries (listed entries labels) in
    fun_ext (λ e.
    elim (cases_lt e (length entries)) as (λ _. links_at new e ≡ links_at entries e) [
      | inl lt ↦ ap (λ (r : Record). r.links)
          (mapped_at (tree.labelled_at (listed entries labels) entries) (length entries) e no_record
          lt)
      | inr ge ↦
          ap (λ (r : Record). r.links)
          (get_or-eq_default new no_record {n = e} (omega (arith, ge, count))
          ∙ sym (get_or-eq_default entries no_record {n = e} ge))
    ])

-- ---- labels

pub group_within : (entries : List Record) (e : ℕ) → e < length entries
    → group_of entries e < groups_in entries
group_within entries e l = subst (λ g. g < groups_in entries) (group_at entries e l)
    (group_inside entries e l)

own_label : (entries : List Record) (labels : ℕ → Label) (e : ℕ) → e < length entries
    → (entry_at (tree_labelled entries labels) e).label ≡ labels (group_of entries e)
own_label entries labels e l =
    ap (λ (r : Record). r.label)
    (mapped_at (tree.labelled_at (listed entries labels) entries) (length entries) e no_record
    l)
    ∙ mapped_at labels (groups_in entries) (group_of entries e) Absent (group_within entries e l)

abbrev in_group : List Record → (ℕ → Label) → ℕ → ℕ → Bool
in_group entries labels g x = group_of (tree_labelled entries labels) x == g

first_label : (entries : List Record) (labels : ℕ → Label) (e : ℕ) → e < length entries
    → (found : Option ℕ)
    → IsLeast (length (tree_labelled entries labels)) (in_group entries labels (group_of entries e))
    found
    → label_at (tree_labelled entries labels) found ≡ labels (group_of entries e)
first_label entries labels e l None least =
    absurd (false≢true
    (sym (least e
    (omega (
      arith,
      l,
      count_same (tree_labelled entries labels) entries
          (alike_labelled entries labels),
    ))) ∙ eq-eqb (group_of (tree_labelled entries labels) e)
    (group_of entries e)
    (group_same (tree_labelled entries labels) entries e (alike_labelled entries labels))))
first_label entries labels e l (Some k) least =
    own_label entries labels k
    (omega (
      arith,
      least.0,
      count_same (tree_labelled entries labels) entries
          (alike_labelled entries labels),
    ))
    ∙ ap labels (sym
    (group_same (tree_labelled entries labels) entries k (alike_labelled entries labels))
    ∙ eqb-true (group_of (tree_labelled entries labels) k) (group_of entries e) least.1)

pub label_set : (entries : List Record) (labels : ℕ → Label) (e : ℕ) → e < length entries
    → label_in (tree_labelled entries labels) (group_of entries e) ≡ labels (group_of entries e)
label_set entries labels e l =
    first_label entries labels e l
    (least_below (length (tree_labelled entries labels))
    (in_group entries labels (group_of entries e)))
    (least_shown (length (tree_labelled entries labels))
    (in_group entries labels (group_of entries e)))

pub label_there : (format : Format) (entries : List Record) (labels : ℕ → Label) (e : ℕ)
    → e < length entries
    → label_in (tree_labelled (records_read_as format entries) labels) (group_of entries e)
    ≡ labels (group_of entries e)
label_there format entries labels e l =
    let alike = alike_read format entries in
    subst (λ g. label_in (tree_labelled (records_read_as format entries) labels) g ≡ labels g)
    (group_same (records_read_as format entries) entries e alike)
    (label_set (records_read_as format entries) labels e
    (subst (λ n. e < n) (sym (count_same (records_read_as format entries) entries alike)) l))
