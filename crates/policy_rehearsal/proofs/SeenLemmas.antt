-- Verdicts and labels of a walk over a tree whose groups have other labels by now.
use Rattle.std.proofs.Common.{◌≡◌, ◌∙◌, ap, ap₂, sym, subst, refl, ℕ, ◌<◌, Bool, false, List}
use Rattle.std.proofs.Common.{length, get_or}
use Rattle.std.specs.Prelude.{if◌then◌else◌, is_some, option_and_then, Option, Some, None}
use Rattle.context_syntax.specs.Context.{ContextValue}
use Rattle.context_syntax.specs.declared.label.Label.{Label}
use Rattle.tree_model.specs.Groups.{group_of, groups_in, label_in, names_in}
use Rattle.tree_model.proofs.GroupLemmas.{has_first}
use Rattle.find_records.specs.Record.{Record}
use Rattle.label_rules.specs.Decide.{VerdictValue, given_in, label_by}
use Rattle.label_rules.specs.declared.rules.Rules.{Rules}
use Rattle.relabel_core.specs.Changes.{change_at}
use Rattle.relabel_core.specs.Walk.{Walk, group_winner, is_found_at, is_changed_name, new_label}
use Rattle.relabel_core.specs.Walk.{verdict, verdict_where, wanted, winner}
use Rattle.relabel_core.proofs.ChangeLemmas.{changed_name_is}
use Rattle.policy_rehearsal.specs.Seen.{verdict_wanted, walk_over}
use Rattle.relabel_runs.proofs.LabelledLemmas.{group_within}
use Rattle.policy_rehearsal.proofs.TurnLemmas.{group_over}
use Rattle.policy_rehearsal.proofs.Unlabelled.{differs, label_is, wanted_same, winner_same}

verdict_by : (w : Walk) (g : ℕ) (wants : Option ContextValue) → verdict_where w g wants
    ≡ verdict_wanted (label_in w.entries g) wants w.options.force w.rules.types
verdict_by w g None = refl
verdict_by w g (Some context) = refl

-- the verdict on a group is the one on the label that it has by now
pub verdict_is : (w : Walk) (labels : ℕ → Label) (g : ℕ) → g < groups_in w.entries
    → verdict (walk_over w labels) g ≡ verdict_wanted (labels g)
    (option_and_then (wanted w) (winner w g)) w.options.force w.rules.types
verdict_is w labels g l =
    let s = differs w.entries labels in
    verdict_by (walk_over w labels) g
    (option_and_then (wanted (walk_over w labels)) (winner (walk_over w labels) g))
    ∙ (λ i. verdict_wanted (label_is w.entries labels g l i)
    (option_and_then (λ e. wanted_same w _ s e i) (winner_same w _ s g i)) w.options.force
    w.rules.types)

pub change_is : (w : Walk) (e : ℕ) → w.options.dry ≡ false
    → change_at w e
    ≡ (if is_found_at (group_winner w e) e then given_in
    (verdict w (group_of w.entries e)) else None)
unfolding change_at
change_is w e wet =
    ap (λ dry. if is_found_at (group_winner w e)
    e then (if dry then None else given_in (verdict w (group_of w.entries e))) else None) wet

pub is_changed_is : (w : Walk) (e : ℕ) → w.options.dry ≡ false
    → is_some (given_in (verdict w (group_of w.entries e))) ≡ is_changed_name w e
is_changed_is w e wet =
    ap (λ dry. is_some (if dry then None else given_in (verdict w (group_of w.entries e))))
    (sym wet)
    ∙ changed_name_is w e

pub new_label_is : (w : Walk) (g : ℕ) → w.options.dry ≡ false
    → new_label w g ≡ label_by (verdict w g) (label_in w.entries g)
new_label_is w g wet =
    ap (λ dry. if dry then label_in w.entries g else label_by (verdict w g) (label_in w.entries g))
    wet

-- the winner of an entry's group is the same
winner_there : (w : Walk) (labels : ℕ → Label) (e : ℕ) → group_winner (walk_over w labels) e
    ≡ group_winner w e
winner_there w labels e =
    let s = differs w.entries labels in
    ap (winner (walk_over w labels)) (s.groups e) ∙ winner_same w _ s (group_of w.entries e)

-- ---- over a tree that the walk was over, by the rules that it had

pub verdict_seen : (w : Walk) (tree : List Record) (labels : ℕ → Label) (e : ℕ) (label : Label)
    (wants : Option ContextValue) (force : Bool) (rules : Rules)
    → w.entries ≡ tree → w.rules ≡ rules → w.options.force ≡ force → e < length tree
    → label ≡ labels (group_of tree e) → wants ≡ option_and_then (wanted w) (group_winner w e)
    → verdict_wanted label wants force rules.types ≡ verdict (walk_over w labels) (group_of tree e)
verdict_seen w tree labels e label wants force rules own ruled forced l label_now wants_now =
    let g = group_of tree e in
    let there : g < groups_in w.entries =
    subst (λ es. g < groups_in es) (sym own) (group_within tree e l) in
    let same : option_and_then (wanted w) (group_winner w e) ≡ option_and_then (wanted w)
    (winner w g) =
    ap (λ es. option_and_then (wanted w) (winner w (group_of es e))) own in
    (λ i. verdict_wanted (label_now i) ((wants_now ∙ same) i) (sym forced i) (sym ruled i).types)
    ∙ sym (verdict_is w labels g there)

-- the change of an entry over such a tree
pub change_seen : (w : Walk) (tree : List Record) (labels : ℕ → Label) (e : ℕ) → w.entries ≡ tree
    → w.options.dry ≡ false
    → change_at (walk_over w labels) e
    ≡ (if is_found_at (group_winner w e) e then given_in
    (verdict (walk_over w labels) (group_of tree e)) else None)
change_seen w tree labels e own wet =
    let v = walk_over w labels in
    let group = group_over w tree labels e own in
    change_is v e wet
    ∙ (λ i. if is_found_at (winner_there w labels e i) e then given_in
    (verdict v (group i)) else None)

pub changed_seen : (w : Walk) (tree : List Record) (labels : ℕ → Label) (e : ℕ) → w.entries ≡ tree
    → w.options.dry ≡ false
    → is_some (given_in (verdict (walk_over w labels) (group_of tree e))) ≡ is_changed_name
    (walk_over w labels) e
changed_seen w tree labels e own wet =
    ap (λ g. is_some (given_in (verdict (walk_over w labels) g)))
    (sym (group_over w tree labels e own))
    ∙ is_changed_is (walk_over w labels) e wet

pub new_label_seen : (w : Walk) (tree : List Record) (labels : ℕ → Label) (g : ℕ) → w.entries ≡ tree
    → w.options.dry ≡ false → g < groups_in tree
    → new_label (walk_over w labels) g ≡ label_by (verdict (walk_over w labels) g) (labels g)
new_label_seen w tree labels g own wet l =
    new_label_is (walk_over w labels) g wet
    ∙ ap (label_by (verdict (walk_over w labels) g))
    (label_is w.entries labels g (subst (λ es. g < groups_in es) (sym own) l))

-- the label of a group after a walk, by the verdict on its first entry
pub after_seen : (w : Walk) (tree : List Record) (labels : ℕ → Label) (g first : ℕ) (names : List ℕ)
    (given : VerdictValue) (label : Label) → w.entries ≡ tree → w.options.dry ≡ false
    → g < groups_in tree
    → names ≡ names_in tree g → first ≡ get_or names 0 0 → given ≡ verdict (walk_over w labels)
    (group_of tree first) → label ≡ labels g
    → label_by given label ≡ new_label (walk_over w labels) g
after_seen w tree labels g first names given label own wet l named at is same =
    let i = has_first tree g l in
    let group : group_of tree first ≡ g =
    ap (group_of tree) (at ∙ ap (λ xs. get_or xs 0 0) named ∙ i.head) ∙ i.own in
    ap₂ label_by (is ∙ ap (verdict (walk_over w labels)) group) same
    ∙ sym (new_label_seen w tree labels g own wet l)
