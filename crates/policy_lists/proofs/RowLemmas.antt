-- Rows stay where they are while further ones come.
use Rattle.std.proofs.Common.{◌≡◌, ◌∙◌, sym, refl, ap, ap₂, ℕ, zero, suc, ◌+◌, ◌<◌, ◌≤◌, inl, inr}
use Rattle.std.proofs.Common.{List, [], ◌∷◌, ◌++◌, length, length-append, append-nil, append_assoc}
use Rattle.std.proofs.Common.{get_or, arith}
use Rattle.std.proofs.Math.ListN.{get_or-append}
use Rattle.std.proofs.lemmas.List.{get_or-map, get_or_push, map_push}
use Rattle.std.specs.Global.{Vec}
use Rattle.policy_lists.specs.Rows.{AreMore, AreRowNumbers, IsAdded, IsNumbered, row_at, rows_at}
use Rattle.policy_lists.specs.Rows.{rows_in}

pub row_here : (rows : List (Vec ℕ)) (n : ℕ) (d : Vec ℕ) → n < length rows
    → row_at (rows_in rows) n ≡ (get_or rows n d).items
row_here rows n d l = get_or-map (λ (row : Vec ℕ). row.items) rows n d [] l

pub row_kept : (old new : List (List ℕ)) (n : ℕ) → AreMore old new → n < length old
    → row_at new n ≡ row_at old n
row_kept old new n m l = ap (λ rows. row_at rows n) m.1 ∙ get_or-append old m.0 [] n l

pub longer : (old new : List (List ℕ)) → AreMore old new → length old ≤ length new
longer old new m =
    omega (arith, ap (λ (rows : List (List ℕ)). length rows) m.1, length-append old m.0)

pub none_more : (rows : List (List ℕ)) → AreMore rows rows
none_more rows = ([], sym (append-nil rows))

pub more_more : (a b c : List (List ℕ)) → AreMore a b → AreMore b c → AreMore a c
more_more a b c m n = (m.0 ++ n.0, n.1 ∙ ap (λ rows. rows ++ n.0) m.1 ∙ append_assoc a m.0 n.0)

pub numbers_kept : (old new : List (List ℕ)) (numbers : List ℕ) → AreMore old new
    → AreRowNumbers old numbers → AreRowNumbers new numbers
numbers_kept old new [] m h = tt
numbers_kept old new (n ∷ numbers) m h =
    (omega (arith, h.0, longer old new m), numbers_kept old new numbers m h.1)

pub rows_kept : (old new : List (List ℕ)) (numbers : List ℕ) → AreMore old new
    → AreRowNumbers old numbers → rows_at new numbers ≡ rows_at old numbers
rows_kept old new [] m h = refl
rows_kept old new (n ∷ numbers) m h =
    ap₂ (λ row rows. row ∷ rows) (row_kept old new n m h.0) (rows_kept old new numbers m h.1)

pub numbers_push : (rows : List (List ℕ)) (numbers : List ℕ) (n : ℕ) → n < length rows
    → AreRowNumbers rows numbers → AreRowNumbers rows (numbers ++ n ∷ [])
numbers_push rows [] n l h = (l, tt)
numbers_push rows (m ∷ numbers) n l h = (h.0, numbers_push rows numbers n l h.1)

pub rows_push : (rows : List (List ℕ)) (numbers : List ℕ) (n : ℕ)
    → rows_at rows (numbers ++ n ∷ []) ≡ rows_at rows numbers ++ row_at rows n ∷ []
rows_push rows numbers n = map_push (row_at rows) numbers n

pub number_at : (rows : List (List ℕ)) (numbers : List ℕ) (i d : ℕ) → i < length numbers
    → AreRowNumbers rows numbers → get_or numbers i d < length rows
number_at rows [] i d l h = absurd (omega (arith, l))
number_at rows (n ∷ numbers) zero d l h = h.0
number_at rows (n ∷ numbers) (suc i) d l h = number_at rows numbers i d (omega (arith, l)) h.1

pub numbered_there : (rows : List (List ℕ)) (row : List ℕ) (n : ℕ) → n < length rows
    → row_at rows n ≡ row → IsNumbered rows row n rows
numbered_there rows row n l e = record { is_row = e; place = inl (refl, l) }

pub numbered_last : (rows new : List (List ℕ)) (row : List ℕ) (n : ℕ) → n ≡ length rows
    → new ≡ rows ++ row ∷ [] → IsNumbered rows row n new
numbered_last rows new row n e is = record {
  is_row = ap (λ rs. row_at rs n) is ∙ get_or_push rows row [] n (sym e);
  place = inr (is, e);
}

pub added : (old new : List (List ℕ)) (row : List ℕ) (n : ℕ) → IsNumbered old row n new
    → IsAdded old row n new
added old new row n h = record {
  more = elim h.place [
    | inl there ↦ ([], there.0 ∙ sym (append-nil old))
    | inr last ↦ (row ∷ [], last.0)
  ];
  within = elim h.place [
    | inl there ↦ omega (arith, there.1, ap (λ (rs : List (List ℕ)). length rs) there.0)
    | inr last ↦ omega (
      arith,
      last.1,
      ap (λ (rs : List (List ℕ)). length rs) last.0,
      length-append old (row ∷ []),
    )
  ];
  is_row = h.is_row;
}
