-- Numbered lists stay what they are while nodes and lists are added.
use Rattle.std.proofs.Common.{◌≡◌, ◌∙◌, sym, refl, ap, ap₂, subst, ℕ, zero, suc, ◌+◌, ◌<◌, inl, inr}
use Rattle.std.proofs.Common.{List, [], ◌∷◌, ◌++◌, length, length-append, map, append-nil, get_or}
use Rattle.std.proofs.Common.{arith}
use Rattle.std.proofs.Math.ListN.{get_or-append}
use Rattle.std.proofs.lemmas.List.{get_or-map, length-map, map_push}
use Rattle.policy_lists.specs.Lists.{IsListOf, ListLeadsTo}
use Rattle.policy_lists.specs.Numbered.{AllNumbers, AreFurther, IsLed, IsStarted, NodeList, list_at}
use Rattle.policy_lists.specs.Numbered.{lists_by}
use Rattle.policy_lists.specs.Rows.{AreMore, AreRowNumbers, IsNumbered, row_at, rows_at}
use Rattle.policy_lists.specs.declared.line.Line.{Line}
use Rattle.policy_lists.proofs.RowLemmas.{numbers_kept, rows_kept}

pub list_is : (nodes rows : List (List ℕ)) (n : ℕ) → n < length rows
    → list_at (lists_by nodes rows) n ≡ rows_at nodes (row_at rows n)
list_is nodes rows n l = get_or-map (rows_at nodes) rows n [] [] l

pub list_within : (nodes rows : List (List ℕ)) (n : ℕ) → n < length (lists_by nodes rows)
    → n < length rows
list_within nodes rows n l = omega (arith, l, length-map rows (rows_at nodes))

pub numbers_at : (nodes rows : List (List ℕ)) (n : ℕ) → n < length rows → AllNumbers nodes rows
    → AreRowNumbers nodes (row_at rows n)
numbers_at nodes [] n l h = absurd (omega (arith, l))
numbers_at nodes (row ∷ rows) zero l h = h.0
numbers_at nodes (row ∷ rows) (suc n) l h = numbers_at nodes rows n (omega (arith, l)) h.1

pub all_kept : (old new rows : List (List ℕ)) → AreMore old new → AllNumbers old rows
    → AllNumbers new rows
all_kept old new [] m h = tt
all_kept old new (row ∷ rows) m h =
    (numbers_kept old new row m h.0, all_kept old new rows m h.1)

lists_kept : (old new rows : List (List ℕ)) → AreMore old new → AllNumbers old rows
    → lists_by new rows ≡ lists_by old rows
lists_kept old new [] m h = refl
lists_kept old new (row ∷ rows) m h =
    ap₂ (λ list lists. list ∷ lists) (rows_kept old new row m h.0) (lists_kept old new rows m h.1)

all_push : (nodes rows : List (List ℕ)) (row : List ℕ) → AllNumbers nodes rows
    → AreRowNumbers nodes row → AllNumbers nodes (rows ++ row ∷ [])
all_push nodes [] row h w = (w, tt)
all_push nodes (x ∷ rows) row h w = (h.0, all_push nodes rows row h.1 w)

-- a list is numbered, after nodes were added
module _ (old new rows rows' : List (List ℕ)) (row : List ℕ) (n : ℕ) (more : AreMore old new)
    (all : AllNumbers old rows) (within : AreRowNumbers new row)
    (numbered : IsNumbered rows row n rows') where
  pub all_now : AllNumbers new rows'
  all_now = elim numbered.place [
    | inl there ↦ subst (AllNumbers new) (sym there.0) (all_kept old new rows more all)
    | inr last ↦ subst (AllNumbers new) (sym last.0)
        (all_push new rows row (all_kept old new rows more all) within)
  ]

  pub further_now : AreFurther (lists_by old rows) (lists_by new rows')
  further_now = elim numbered.place [
    | inl there ↦ (
      [],
      ap (lists_by new) there.0 ∙ lists_kept old new rows more all
          ∙ sym (append-nil (lists_by old rows)),
    )
    | inr last ↦ (
      rows_at new row ∷ [],
      ap (lists_by new) last.0
          ∙ map_push (rows_at new) rows row
          ∙ ap (λ lists. lists ++ rows_at new row ∷ []) (lists_kept old new rows more all),
    )
  ]

  number_within : n < length rows'
  number_within = elim numbered.place [
    | inl there ↦ omega (arith, there.1, ap (λ (rs : List (List ℕ)). length rs) there.0)
    | inr last ↦ omega (
      arith,
      last.1,
      ap (λ (rs : List (List ℕ)). length rs) last.0,
      length-append rows (row ∷ []),
    )
  ]

  pub within_now : n < length (lists_by new rows')
  within_now = omega (arith, number_within, length-map rows' (rows_at new))

  pub list_now : list_at (lists_by new rows') n ≡ rows_at new row
  list_now = list_is new rows' n number_within ∙ ap (rows_at new) numbered.is_row

  pub started_now : (lines : List Line) (order : List ℕ) → IsListOf lines order [] (rows_at new row)
      → IsStarted lines order n (lists_by old rows) (lists_by new rows')
  started_now lines order h = record {
    further = further_now;
    within = within_now;
    list = subst (IsListOf lines order []) (sym list_now) h;
  }

  pub led_now : (lines : List Line) (byte from : ℕ) → from < length rows
      → ListLeadsTo lines byte (rows_at old (row_at rows from)) (rows_at new row)
      → IsLed lines byte from n (lists_by old rows) (lists_by new rows')
  led_now lines byte from l h = record {
    further = further_now;
    within = within_now;
    leads = subst (λ list. ListLeadsTo lines byte list (list_at (lists_by new rows') n))
        (sym (list_is old rows from l))
        (subst (ListLeadsTo lines byte (rows_at old (row_at rows from))) (sym list_now) h);
  }
