-- Samples: counts of lines, and what one walk leaves to the next.
use Rattle.std.proofs.Common.{◌≡◌, ◌∙◌, ap, sym, ℕ, ◌+◌, Bool, false, cond, List, [], ◌∷◌, ◌++◌}
use Rattle.std.proofs.Common.{length, map, get_or, add-one, arith, inl, inr}
use Rattle.std.specs.Prelude.{◌&&◌, ◌||◌, Option, Some, None, is_some, option_map}
use Rattle.run_endings.specs.declared.ending.Ending.{Ending}
use Rattle.tool_runs.specs.Stages.{saved_name}
use Rattle.std.proofs.lemmas.Bool.{cases_lt}
use Rattle.std.proofs.lemmas.List.{length-map, map-append}
use Rattle.std.proofs.Math.ListN.{get_or-eq_default}
use Rattle.label_base.specs.Bounded.{all_numbers}
use Rattle.label_base.proofs.BoundedLemmas.{count_numbers}
use Rattle.context_syntax.specs.declared.label.Label.{Label}
use Rattle.find_records.specs.Record.{Record}
use Rattle.tree_model.specs.Extents.{is_directory}
use Rattle.tree_model.specs.Groups.{groups_in}
use Rattle.tree_model.specs.Labelled.{DifferInLabels, labelled}
use Rattle.tree_model.specs.Selection.{whole_at}
use Rattle.tree_model.proofs.LabelledLemmas.{mapped_at}
use Rattle.relabel_core.specs.Stored.{digests_listed, no_digests}
use Rattle.relabel_core.specs.Walk.{Walk, walk_count, digest_after, digest_now, digests}
use Rattle.relabel_core.specs.Walk.{has_changed_name, is_outdated, is_renewed, line, new_label}
use Rattle.relabel_core.specs.Walk.{one_if, walked}
use Rattle.dir_digest.specs.Digest.{void_digest}
use Rattle.sample_tree.specs.Walks.{sample_ending, has_line_of, labels_after, lines_below}
use Rattle.sample_tree.specs.Walks.{sample_walk, walk_after}
use Rattle.label_rules.specs.declared.rules.Rules.{Rules}
use Rattle.sample_tree.specs.declared.walks.LineKind.{LineKind}

-- one entry more
pub one_more_line : (kind : LineKind) (w : Walk) (e lines more : ℕ) → lines ≡ lines_below kind w e
    → more ≡ one_if (has_line_of kind (line w e)) → lines + more ≡ lines_below kind w (e + 1)
one_more_line kind w e lines more so_far is =
    (λ i. so_far i + is i) ∙ ap (lines_below kind w) (sym (add-one e))

-- ---- what one walk leaves to the next

third_false : (a b c d : Bool) → c ≡ false → (a && b && (c && d)) ≡ false
third_false a b c d h = grind arith

kept_none : (dry : Bool) (anew void : Bool) (digest : List ℕ) → anew ≡ false → void ≡ false
    → cond dry None (cond anew (Some digest) (cond void (Some void_digest) None)) ≡ None
kept_none dry anew void digest a v =
    ap (λ b. cond dry None (cond b (Some digest) (cond void (Some void_digest) None))) a
    ∙ ap (λ b. cond dry None (cond b (Some void_digest) None)) v ∙ always dry
  where
    always : (b : Bool) → cond {A = Option (List ℕ)} b None None ≡ None
    always b = grind arith

none_at : (w : Walk) (e : ℕ) → w.stored e ≡ None → is_renewed w e ≡ false → digest_after w e ≡ None
unfolding digest_after
none_at w e none anew =
    (λ i. cond w.options.dry (none i)
    (cond (is_renewed w e) (Some (digest_now w e))
    (cond (is_outdated w e) (Some void_digest) (none i))))
    ∙ kept_none w.options.dry (is_renewed w e) (is_outdated w e) (digest_now w e) anew
    (ap (λ s. is_some s && has_changed_name w e) none)

not_renewed : (w : Walk) (e : ℕ) → is_directory w.entries e ≡ false → is_renewed w e ≡ false
unfolding is_renewed
not_renewed w e none = third_false (w.options.digests || w.options.ignore_digests) (walked w e)
    (is_directory w.entries e) (whole_at w.entries w.live e) none

pub only_directories : (w : Walk) (next : List Record) → w.stored ≡ no_digests
    → DifferInLabels w.entries next → (row : List (Option (List ℕ))) → row ≡ digests w → (e : ℕ)
    → is_directory next e ≡ false → get_or row e None ≡ None
only_directories w next none same row is e other =
    let here : is_directory w.entries e ≡ false = sym (same.directories e) ∙ other in
    ap (λ r. get_or r e None) is
    ∙ elim (cases_lt e (walk_count w)) as (λ _. get_or (digests w) e None ≡ None) [
      | inl lt ↦ mapped_at (digest_after w) (walk_count w) e None lt
          ∙ none_at w e (ap (λ s. s e) none) (not_renewed w e here)
      | inr ge ↦ get_or-eq_default (digests w) None {n = e}
          (omega (
            arith,
            ge,
            length-map (all_numbers (walk_count w)) (digest_after w),
            count_numbers
                (walk_count w),
          ))
    ]

pub each_digest : (w : Walk) (next : List Record) (row : List (Option (List ℕ)))
    → DifferInLabels w.entries next → row ≡ digests w → length row ≡ length next
each_digest w next row same is =
    ap length is ∙ length-map (all_numbers (walk_count w)) (digest_after w)
    ∙ count_numbers (walk_count w) ∙ sym same.count

pub each_label : (w : Walk) (tree : List Record) (labels : List Label) → w.entries ≡ tree
    → labels ≡ labels_after w → length labels ≡ groups_in tree
each_label w tree labels own is =
    ap length is ∙ length-map (all_numbers (groups_in w.entries)) (new_label w)
    ∙ count_numbers (groups_in w.entries) ∙ ap groups_in own

pub after_is : (rules : Rules) (w : Walk) (tree next : List Record) → w.entries ≡ tree
    → next ≡ labelled (labels_after w) tree
    → sample_walk rules next (digests_listed (digests w)) ≡ walk_after rules w
unfolding walk_after
after_is rules w tree next own next_is =
    ap (λ entries. sample_walk rules entries (digests_listed (digests w)))
    (next_is ∙ ap (labelled (labels_after w)) (sym own))

-- a sample saves no file
pub saves_none : (rules : Rules) (entries : List Record) (ending : Ending)
    → ending ≡ sample_ending rules entries → option_map saved_name ending.saved ≡ None
unfolding sample_ending
saves_none rules entries ending is =
    ap (λ (e : Ending). option_map saved_name e.saved) is
