-- The walk with a table makes what a walk means.
use Rattle.std.proofs.Common.{◌≡◌, ◌∙◌, sym, refl, ap, ap₂, subst, ℕ, zero, suc, ◌<◌, ◌≤◌, ◌==◌}
use Rattle.std.proofs.Common.{Bool, true, false, ◌&&◌, inl, inr, [], ◌∷◌, ◌++◌, Option, Some, None}
use Rattle.std.proofs.Common.{if◌then◌else◌, arith}
use Rattle.std.proofs.lemmas.Bool.{cases_lt, cases_Bool, eq-eqb, eqb-true, cond-false}
use Rattle.std.proofs.lemmas.List.{map-append}
use Rattle.std.proofs.lemmas.List.Elements.{filter_map-append}
use Rattle.std.specs.Prelude.{is_some, map}
use Rattle.std.specs.List.{cons_option, filter_map}
use Rattle.label_base.specs.Bounded.{all_numbers, found_or, least_below}
use Rattle.label_base.proofs.BoundedLemmas.{least_case}
use Rattle.context_syntax.specs.Context.{ContextValue}
use Rattle.tree_model.specs.Groups.{group_of, label_in}
use Rattle.relabel_core.specs.Walk.{Walk, can_win, conflict_with, walk_count, deciding}
use Rattle.relabel_core.specs.Walk.{decided_line, entry_lines, group_winner, is_found_at}
use Rattle.relabel_core.specs.Walk.{label_after, label_with, labels, line, line_where, line_with}
use Rattle.relabel_core.specs.Walk.{new_label_with, wanted, winner, winner_line, path_at}
use Rattle.label_rules.specs.Lines.{conflict_line}
use Rattle.relabel_core.specs.TableWalk.{Table, first_entered, made_below, table_put, table_walk}

chosen : (b : Bool) (o : Option ℕ) (e : ℕ) → (if b then first_entered o e else o) ≡ found_or o e
    (b && true)
chosen true None e = refl
chosen true (Some k) e = refl
chosen false None e = refl
chosen false (Some k) e = refl

pub kept : (b : Bool) (o : Option ℕ) (e : ℕ) → o ≡ found_or o e (b && false)
kept true None e = refl
kept true (Some k) e = refl
kept false None e = refl
kept false (Some k) e = refl

entered_is : (table : Table) (wins : Bool) (group e g : ℕ)
    → (if wins then table_put table group e else table) g ≡ found_or (table g) e
    ((group == g) && wins)
entered_is table true group e g = chosen (group == g) (table g) e
entered_is table false group e g = kept (group == g) (table g) e

-- the table after the entries below n has the least of these that can win
pub table_is : (w : Walk) (n g : ℕ) → (made_below w n).winners g ≡ least_below n (can_win w g)
table_is w zero g = refl
table_is w (suc n) g =
    entered_is (made_below w n).winners (is_some (wanted w n)) (group_of w.entries n) n g
    ∙ ap (λ o. found_or o n (can_win w g n)) (table_is w n g)

-- ---- a least number, once found, stays

least_more : (n m : ℕ) (p : ℕ → Bool) (k : ℕ) → m ≤ n → least_below m p ≡ Some k
    → least_below n p ≡ Some k
least_more zero m p k l h = subst (λ i. least_below i p ≡ Some k) {x = m} {y = 0} (omega (arith, l))
    h
least_more (suc n) m p k l h =
    elim (cases_lt n m) [
      | inl lt ↦ subst (λ i. least_below i p ≡ Some k) {x = m} {y = suc n} (omega (arith, l, lt)) h
      | inr le ↦ ap (λ o. found_or o n (p n)) (least_more n m p k le h)
    ]

has_found : (o : Option ℕ) (e : ℕ) (b : Bool) → b ≡ true → (k : ℕ) × (found_or o e b ≡ Some k)
has_found (Some k) e b h = (k, refl)
has_found None e true h = (e, refl)
has_found None e false h = absurd cc

pub least_settled : (n e : ℕ) (p : ℕ → Bool) → e < n → p e ≡ true → least_below (suc e) p
    ≡ least_below n p
least_settled n e p l h =
    let found = has_found (least_below e p) e (p e) h in
    found.1 ∙ sym (least_more n (suc e) p found.0 (omega (arith, l)) found.1)

differs : (k e : ℕ) (p : ℕ → Bool) (b : Bool) → (k == e) ≡ b → p k ≡ true → p e ≡ false → b ≡ false
differs k e p false q h f = refl
differs k e p true q h f = let same = eqb-true k e q in cc

-- a number that doesn't pass isn't the least that does
pub not_least : (n e : ℕ) (p : ℕ → Bool) → p e ≡ false → is_found_at (least_below n p) e ≡ false
not_least n e p f = least_case n p (λ o. is_found_at o e ≡ false) refl
    (λ k l h. differs k e p (k == e) refl h f)

-- ---- an entry's label and line by the table that it has itself entered

no_conflict : (w : Walk) (e : ℕ) (found : Option ℕ) → wanted w e ≡ None → conflict_with w e found
    ≡ None
no_conflict w e None h = refl
no_conflict w e (Some k) h = ap (λ c. conflict_line (path_at w k) (path_at w e) c (wanted w k)) h

-- where no context is decided for an entry, it has no line by its group's winner
decided_by_none : (w : Walk) (e : ℕ) (found : Option ℕ) → is_found_at found e ≡ false
    → wanted w e ≡ None → decided_line w e found ≡ None
decided_by_none w e found f h =
    cond-false (is_found_at found e) (winner_line w e found) (conflict_with w e found) f
    ∙ no_conflict w e found h

line_by_none : (w : Walk) (e : ℕ) (found : Option ℕ) (index : Option ℕ)
    → is_found_at found e ≡ false → wanted w e ≡ None
    → line_where w e found index ≡ line_where w e None index
line_by_none w e found None f h = refl
line_by_none w e found (Some i) f h = decided_by_none w e found f h

label_by_none : (w : Walk) (e : ℕ) (found : Option ℕ) → is_found_at found e ≡ false
    → label_with w e found ≡ label_in w.entries (group_of w.entries e)
label_by_none w e found f =
    cond-false (is_found_at found e) (new_label_with w (group_of w.entries e) found)
    (label_in w.entries (group_of w.entries e)) f

wants_none : (a : Bool) (c : Option ContextValue) → a ≡ true → (a && is_some c) ≡ false → c ≡ None
wants_none true None a f = refl
wants_none true (Some c) a f = absurd cc
wants_none false c a f = absurd cc

-- the winner by the table at that entry
abbrev met : Walk → ℕ → Option ℕ
met w e = (made_below w (suc e)).winners (group_of w.entries e)

met_is : (w : Walk) (e : ℕ) → met w e ≡ least_below (suc e) (can_win w (group_of w.entries e))
met_is w e = table_is w (suc e) (group_of w.entries e)

-- the winner that the table has, or both have nothing to say of the entry
met_winner : (w : Walk) (e : ℕ) → e < walk_count w → can_win w (group_of w.entries e) e ≡ true
    → met w e ≡ group_winner w e
unfolding winner
met_winner w e l h = met_is w e ∙ least_settled (walk_count w) e (can_win w (group_of w.entries e))
    l h

met_other : (w : Walk) (e : ℕ) → can_win w (group_of w.entries e) e ≡ false
    → is_found_at (met w e) e ≡ false
met_other w e h = subst (λ o. is_found_at o e ≡ false) (sym (met_is w e))
    (not_least (suc e) e (can_win w (group_of w.entries e)) h)

winner_other : (w : Walk) (e : ℕ) → can_win w (group_of w.entries e) e ≡ false
    → is_found_at (group_winner w e) e ≡ false
unfolding winner
winner_other w e h = not_least (walk_count w) e (can_win w (group_of w.entries e)) h

label_is : (w : Walk) (e : ℕ) → e < walk_count w → label_with w e (met w e) ≡ label_after w e
unfolding label_after
label_is w e l =
    elim (cases_Bool (can_win w (group_of w.entries e) e)) [
      | inl h ↦ ap (λ o. label_with w e o) (met_winner w e l h)
      | inr h ↦ label_by_none w e (met w e) (met_other w e h)
          ∙ sym (label_by_none w e (group_winner w e) (winner_other w e h))
    ]

line_is : (w : Walk) (e : ℕ) → e < walk_count w → line_with w e (met w e) ≡ line w e
unfolding line
line_is w e l =
    elim (cases_Bool (can_win w (group_of w.entries e) e)) [
      | inl h ↦ ap (λ o. line_with w e o) (met_winner w e l h)
      | inr h ↦
          let none = wants_none (group_of w.entries e == group_of w.entries e) (wanted w e)
          (eq-eqb (group_of w.entries e) (group_of w.entries e) refl) h in
          line_by_none w e (met w e) (deciding w e) (met_other w e h) none
          ∙ sym (line_by_none w e (group_winner w e) (deciding w e) (winner_other w e h) none)
    ]

labels_to : (w : Walk) (n : ℕ) → n ≤ walk_count w → (made_below w n).labels ≡ map (label_after w)
    (all_numbers n)
labels_to w zero l = refl
labels_to w (suc n) l =
    ap₂ (λ ls l. ls ++ l ∷ []) (labels_to w n (omega (arith, l))) (label_is w n (omega (arith, l)))
    ∙ sym (map-append (label_after w) (all_numbers n) (n ∷ []))

lines_to : (w : Walk) (n : ℕ) → n ≤ walk_count w → (made_below w n).lines ≡ filter_map (line w)
    (all_numbers n)
lines_to w zero l = refl
lines_to w (suc n) l =
    ap₂ (λ ls m. ls ++ cons_option m []) (lines_to w n (omega (arith, l)))
    (line_is w n (omega (arith, l)))
    ∙ sym (filter_map-append (line w) (all_numbers n) (n ∷ []))

pub same_labels : (w : Walk) → (table_walk w).labels ≡ labels w
same_labels w = labels_to w (walk_count w) (omega arith)

pub same_lines : (w : Walk) → (table_walk w).lines ≡ entry_lines w
same_lines w = lines_to w (walk_count w) (omega arith)
