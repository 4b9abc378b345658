-- What is told of a version, and the digests that it leaves.
use Rattle.std.proofs.Common.{◌≡◌, ◌∙◌, ap, ap₂, sym, subst, ℕ, ◌+◌, ◌<◌, ◌≤◌, Bool}
use Rattle.std.proofs.Common.{false, List, [], ◌∷◌, ◌++◌, length, filter, map, get_or, add-one}
use Rattle.std.proofs.Common.{arith, inl, inr}
use std.Path.{fun_ext}
use Rattle.std.specs.Prelude.{◌&&◌, not, nat_le, nat_lt, if◌then◌else◌, is_some, option_map, Option}
use Rattle.std.specs.Prelude.{Some, None, Result, Ok, Err, IfOk}
use Rattle.std.specs.List.{cons_option, filter_map}
use Rattle.std.proofs.lemmas.Bool.{cases_lt}
use Rattle.std.proofs.lemmas.List.{length-map, map-append}
use Rattle.std.proofs.lemmas.List.Elements.{filter_map-append}
use Rattle.std.proofs.Math.ListN.{get_or-eq_default}
use Rattle.label_base.specs.Bounded.{all_numbers}
use Rattle.label_base.proofs.BoundedLemmas.{count_numbers}
use Rattle.file_paths.specs.Path.{at_or_below}
use Rattle.context_syntax.specs.Context.{ContextValue}
use Rattle.context_syntax.specs.ContextRef.{context_lent}
use Rattle.context_syntax.specs.declared.context_ref.ContextRef.{ContextRef}
use Rattle.context_syntax.specs.declared.label.Label.{Label}
use Rattle.dir_digest.specs.Digest.{void_digest}
use Rattle.find_records.specs.Places.{no_record}
use Rattle.find_records.specs.Record.{Record}
use Rattle.tree_model.specs.Extents.{in_extent, is_directory}
use Rattle.tree_model.specs.Groups.{group_of, groups_in, label_in}
use Rattle.tree_model.proofs.LabelledLemmas.{mapped_at}
use Rattle.relabel_core.specs.Changes.{change_at, label_before}
use Rattle.relabel_core.specs.Counts.{AreWalkCounts, count_at}
use Rattle.relabel_core.specs.Swept.{renewal}
use Rattle.relabel_core.specs.Stored.{digests_listed, digests_of}
use Rattle.relabel_core.specs.declared.stored.Stored.{Stored}
use Rattle.relabel_core.specs.Walk.{Walk, walk_count, digest_after, digests, has_changed_name}
use Rattle.relabel_core.proofs.ChangeLemmas.{after_other, after_renewed}
use Rattle.relabel_core.proofs.CountsLemmas.{rise_is}
use Rattle.relabel_core.proofs.NextLemmas.{none_there}
use Rattle.relabel_runs.specs.Runs.{tree_labelled}
use Rattle.relabel_runs.proofs.LabelledLemmas.{group_within}
use Rattle.label_rules.specs.LabelAfter.{label_seen}
use Rattle.label_rules.specs.declared.label_after.LabelAfter.{LabelAfter}
use Rattle.policy_rehearsal.specs.Rehearsal.{ChangeValue, change_to, changes_in, skipped_in}
use Rattle.policy_rehearsal.specs.Seen.{walk_over}
use Rattle.policy_rehearsal.proofs.Unlabelled.{differs, first_same, label_is, renewal_same}

-- ---- changes

-- the label before a walk is the one that its group has by now
pub before_is : (w : Walk) (labels : ℕ → Label) (e : ℕ) → e < walk_count w
    → label_before (walk_over w labels) e ≡ labels (group_of w.entries e)
before_is w labels e l =
    let s = differs w.entries labels in
    ap (label_in (tree_labelled w.entries labels)) (s.groups e)
    ∙ label_is w.entries labels (group_of w.entries e) (group_within w.entries e l)

abbrev pub change_there : Walk → ℕ → Option ChangeValue
change_there w e = change_to w e (change_at w e)

-- the changes of one entry more
pub changes_more : (w : Walk) (e : ℕ) → filter_map (change_there w) (all_numbers (e + 1))
    ≡ filter_map (change_there w) (all_numbers e) ++ cons_option (change_there w e) []
changes_more w e =
    ap (λ n. filter_map (change_there w) (all_numbers n)) (add-one e)
    ∙ filter_map-append (change_there w) (all_numbers e) (e ∷ [])

pub all_changes : (w : Walk) (n : ℕ) (changes : List ChangeValue) → n ≡ walk_count w
    → changes ≡ filter_map (change_there w) (all_numbers n) → changes ≡ changes_in w
unfolding changes_in
all_changes w n changes all is = is ∙ ap (λ m. filter_map (change_there w) (all_numbers m)) all

-- ---- skipped directories

pub skipped_same : (w : Walk) (labels : ℕ → Label) → skipped_in (walk_over w labels) ≡ skipped_in w
unfolding skipped_in
skipped_same w labels i =
    let s = differs w.entries labels in
    length (filter (λ e. first_same w _ s e i) (all_numbers (s.count i)))

-- ---- digests

-- the counts rise where a label changes at or below an entry
pub rise_over : (w : Walk) (labels : ℕ → Label) (d end : ℕ) (counts : List ℕ) → d < end
    → end ≤ walk_count w
    → AreWalkCounts (walk_over w labels) (walk_count (walk_over w labels)) counts
    → ((e : ℕ) → e < walk_count w → in_extent w.entries d e ≡ (nat_le d e && nat_lt e end))
    → nat_lt (count_at counts d) (count_at counts end) ≡ has_changed_name (walk_over w labels) d
rise_over w labels d end counts l m counted run =
    let s = differs w.entries labels in
    rise_is (walk_over w labels) d end counts (omega (arith, l)) (omega (arith, m, s.count)) counted
    (λ e h. (λ i. at_or_below (s.paths e i) (s.paths d i)) ∙ run e (omega (arith, h, s.count)))

pub digest_anew : (w : Walk) (labels : ℕ → Label) (d : ℕ) (digest : List ℕ)
    → renewal w d ≡ Some digest → digest_after (walk_over w labels) d ≡ Some digest
digest_anew w labels d digest is =
    after_renewed (walk_over w labels) d digest (renewal_same w _ (differs w.entries labels) d ∙ is)

pub digest_kept : (w : Walk) (labels : ℕ → Label) (d : ℕ) → w.options.dry ≡ false
    → renewal w d ≡ None
    → digest_after (walk_over w labels) d
    ≡ (if is_some (w.stored d) && has_changed_name (walk_over w labels) d then Some
    void_digest else w.stored d)
digest_kept w labels d wet none =
    after_other (walk_over w labels) d (renewal_same w _ (differs w.entries labels) d ∙ none)
    ∙ ap (λ dry. if not dry && (is_some (w.stored d) && has_changed_name (walk_over w labels) d)
    then Some void_digest else w.stored d) wet

no_directory : (entries : List Record) (e : ℕ) → length entries ≤ e → is_directory entries e ≡ false
no_directory entries e ge =
    ap (λ (r : Record). is_directory (r ∷ []) 0) (get_or-eq_default entries no_record {n = e} ge)

-- the digests listed are those of all entries: none has what is none
pub listed_are : (w : Walk) → ((e : ℕ) → is_directory w.entries e ≡ false → w.stored e ≡ None)
    → digests_listed (digests w) ≡ digest_after w
listed_are w none =
    fun_ext (λ (e : ℕ).
    elim (cases_lt e (walk_count w)) as (λ _. digests_listed (digests w) e ≡ digest_after w e) [
      | inl lt ↦ mapped_at (digest_after w) (walk_count w) e None lt
      | inr ge ↦
          get_or-eq_default (digests w) None {n = e}
          (omega (
            arith,
            ge,
            length-map (all_numbers (walk_count w)) (digest_after w),
            count_numbers (walk_count w),
          ))
          ∙ sym (none_there w e (none e (no_directory w.entries e ge))
          (no_directory w.entries e ge))
    ])

-- where only directories have digests, only directories have them afterwards
pub none_after : (w : Walk) → ((e : ℕ) → is_directory w.entries e ≡ false → w.stored e ≡ None)
    → (e : ℕ) → is_directory w.entries e ≡ false → digest_after w e ≡ None
none_after w none e other = none_there w e (none e other) other

pub count_listed : (w : Walk) → length (digests w) ≡ walk_count w
count_listed w = length-map (all_numbers (walk_count w)) (digest_after w)
    ∙ count_numbers (walk_count w)

-- ---- as it is kept

-- one label more
pub listed_more : (f : ℕ → Label) (n : ℕ) (old new : List LabelAfter) (label : LabelAfter)
    → new ≡ old ++ label ∷ []
    → map label_seen old ≡ map f (all_numbers n) → label_seen label ≡ f n
    → map label_seen new ≡ map f (all_numbers (n + 1))
listed_more f n old new label more so_far is =
    ap (map label_seen) more ∙ map-append label_seen old (label ∷ [])
    ∙ ap₂ (λ front last. front ++ last ∷ []) so_far is
    ∙ sym (map-append f (all_numbers n) (n ∷ []))
    ∙ ap (λ k. map f (all_numbers k)) (sym (add-one n))

-- over a tree that the walk was over
pub entries_over : (w : Walk) (tree : List Record) (labels : ℕ → Label) → w.entries ≡ tree
    → walk_count (walk_over w labels) ≡ length tree
entries_over w tree labels own = (differs w.entries labels).count ∙ ap length own

pub groups_over : (w : Walk) (tree : List Record) (labels : ℕ → Label) → w.entries ≡ tree
    → groups_in (walk_over w labels).entries ≡ groups_in tree
groups_over w tree labels own = (differs w.entries labels).group_count ∙ ap groups_in own

pub group_over : (w : Walk) (tree : List Record) (labels : ℕ → Label) (e : ℕ) → w.entries ≡ tree
    → group_of (walk_over w labels).entries e ≡ group_of tree e
group_over w tree labels e own = (differs w.entries labels).groups e ∙ ap (λ es. group_of es e) own

pub before_over : (w : Walk) (tree : List Record) (labels : ℕ → Label) (e : ℕ) → w.entries ≡ tree
    → e < length tree → label_before (walk_over w labels) e ≡ labels (group_of tree e)
before_over w tree labels e own l =
    before_is w labels e (subst (λ es. e < length es) (sym own) l)
    ∙ ap (λ es. labels (group_of es e)) own

pub rise_seen : (w : Walk) (tree : List Record) (labels : ℕ → Label) (d end : ℕ) (counts : List ℕ)
    → w.entries ≡ tree → d < end → end ≤ length tree
    → AreWalkCounts (walk_over w labels) (walk_count (walk_over w labels)) counts
    → ((e : ℕ) → e < length tree → in_extent tree d e ≡ (nat_le d e && nat_lt e end))
    → nat_lt (count_at counts d) (count_at counts end) ≡ has_changed_name (walk_over w labels) d
rise_seen w tree labels d end counts own l m counted run =
    rise_over w labels d end counts l (subst (λ es. end ≤ length es) (sym own) m) counted
    (subst (λ es. (e : ℕ) → e < length es → in_extent es d e ≡ (nat_le d e && nat_lt e end))
    (sym own) run)

-- directories alone have digests, also in a tree with other labels
pub none_over : (w : Walk) (tree : List Record) (labels : ℕ → Label) → w.entries ≡ tree
    → ((e : ℕ) → is_directory tree e ≡ false → w.stored e ≡ None)
    → (e : ℕ) → is_directory (walk_over w labels).entries e ≡ false → (walk_over w labels).stored e
    ≡ None
none_over w tree labels own none e other =
    none e (ap (λ es. is_directory es e) (sym own) ∙ sym ((differs w.entries labels).directories e)
    ∙ other)

pub row_counts : (w : Walk) (tree : List Record) (labels : ℕ → Label) (row : List (Option (List ℕ)))
    → w.entries ≡ tree → row ≡ digests (walk_over w labels) → length row ≡ length tree
row_counts w tree labels row own is = ap length is ∙ count_listed (walk_over w labels)
    ∙ entries_over w tree labels own

pub row_none : (w : Walk) (tree : List Record) (labels : ℕ → Label) (row : List (Option (List ℕ)))
    → w.entries ≡ tree → row ≡ digests (walk_over w labels)
    → ((e : ℕ) → is_directory tree e ≡ false → w.stored e ≡ None) → (e : ℕ)
    → is_directory tree e ≡ false → get_or row e None ≡ None
row_none w tree labels row own is none e other =
    let v = walk_over w labels in
    let only = none_over w tree labels own none in
    ap (λ r. get_or r e None) is
    ∙ ap (λ d. d e) (listed_are v only)
    ∙ none_after v only e ((differs w.entries labels).directories e
    ∙ ap (λ es. is_directory es e) own ∙ other)

pub row_kept : {E : Type 0} (w : Walk) (tree : List Record) (labels : ℕ → Label)
    (row : List (Option (List ℕ))) (result : Result Stored E) → w.entries ≡ tree
    → row ≡ digests (walk_over w labels)
    → ((e : ℕ) → is_directory tree e ≡ false → w.stored e ≡ None)
    → IfOk result (λ stored. digests_of stored ≡ digests_listed row)
    → IfOk result (λ stored. digests_of stored ≡ digest_after (walk_over w labels))
row_kept w tree labels row (Err fault) own is none kept = tt
row_kept w tree labels row (Ok stored) own is none kept =
    kept ∙ ap digests_listed is ∙ listed_are (walk_over w labels) (none_over w tree labels own none)

abbrev change_from : ℕ → Label → ContextValue → ChangeValue
change_from e from to = record { entry = e; from = from; to = to }

-- the change of an entry, as it is told
pub change_shown : (w : Walk) (tree : List Record) (labels : ℕ → Label) (e : ℕ)
    (found : Option ContextRef) (to : ContextRef) (from : LabelAfter) → w.entries ≡ tree
    → e < length tree
    → option_map context_lent found ≡ change_at (walk_over w labels) e → found ≡ Some to
    → label_seen from ≡ labels (group_of tree e)
    → ◌≡◌ {A = Option ChangeValue}
    (Some (record { entry = e; from = label_seen from; to = context_lent to }))
    (change_to (walk_over w labels) e (change_at (walk_over w labels) e))
change_shown w tree labels e found to from own l given is now =
    let v = walk_over w labels in
    let at : Some (context_lent to) ≡ change_at v e = ap (option_map context_lent) (sym is)
    ∙ given in
    let before : label_seen from ≡ label_before v e =
    now ∙ sym (before_over w tree labels e own l) in
    ap (λ (label : Label). Some (change_from e label (context_lent to))) before
    ∙ ap (change_to v e) at

-- a digest made anew, as it is copied
pub anew_copied : {E : Type 0} (w : Walk) (labels : ℕ → Label) (d : ℕ) (found : Option (List ℕ))
    (digest bytes : List ℕ) (result : Result (Option (List ℕ)) E) → found ≡ renewal w d
    → found ≡ Some digest → bytes ≡ digest
    → IfOk result (λ copied. copied ≡ Some bytes)
    → IfOk result (λ copied. copied ≡ digest_after (walk_over w labels) d)
anew_copied w labels d found digest bytes (Err fault) shown is same copied = tt
anew_copied w labels d found digest bytes (Ok copy) shown is same copied =
    copied ∙ ap Some same ∙ sym (digest_anew w labels d digest (sym shown ∙ is))

-- one that isn't
pub kept_copied : {E : Type 0} (w : Walk) (labels : ℕ → Label) (d : ℕ)
    (found given : Option (List ℕ)) (changed : Bool) (result : Result (Option (List ℕ)) E)
    → w.options.dry ≡ false
    → found ≡ renewal w d → found ≡ None → given ≡ w.stored d
    → changed ≡ has_changed_name (walk_over w labels) d
    → IfOk result
    (λ digest. digest ≡ (if is_some given && changed then Some void_digest else given))
    → IfOk result (λ digest. digest ≡ digest_after (walk_over w labels) d)
kept_copied w labels d found given changed (Err fault) wet shown is stored risen kept = tt
kept_copied w labels d found given changed (Ok digest) wet shown is stored risen kept =
    kept
    ∙ (λ i. if is_some (stored i) && risen i then Some void_digest else stored i)
    ∙ sym (digest_kept w labels d wet (sym shown ∙ is))
