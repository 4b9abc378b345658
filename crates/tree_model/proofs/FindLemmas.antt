-- Where a path stands among entries.
use Rattle.std.proofs.Common.{◌≡◌, ◌∙◌, ap, sym, refl, subst, ℕ, ◌+◌, ◌<◌, ◌≤◌, Bool, true, false}
use Rattle.std.proofs.Common.{cond, List, length, arith, ◌⊎◌, inl, inr}
use Rattle.std.proofs.lemmas.Bool.{cases_lt, true≢false, and_parts}
use Rattle.std.proofs.lemmas.Bool.Decides.{nat_tests}
use borrow.Author.Tests.{lt-ltb, le-ltb}
use Rattle.std.specs.Prelude.{◌&&◌, Some, None, nat_lt}
use Rattle.std.specs.List.{position, position_or_len}
use Rattle.std.specs.Ordering.{is_eq, is_lt}
use Rattle.std.specs.declared.cmp.Ordering.{Ordering}
use Rattle.std.specs.declared.cmp.Ordering.TheVariants.{Less}
use Rattle.std.proofs.lemmas.List.Sums.{position_or_len_is}
use Rattle.tree_model.proofs.UpLemmas.{less_from}
use Rattle.file_paths.specs.Path.{Path, path_cmp}
use Rattle.find_records.specs.Places.{no_record}
use Rattle.find_records.specs.Record.{Record}
use Rattle.tree_model.specs.Extents.{entry_at}
use Rattle.tree_model.specs.Search.{IsBetween, stands_at}
use Rattle.tree_model.specs.Tree.{find_in, is_entry_at, ByPath, IsFrom}
use Rattle.tree_model.proofs.SameLemmas.{path_exact, same_path_is}
use Rattle.tree_model.proofs.HeadLemmas.{path_total}

position_at : (p : Record → Bool) (xs : List Record) (i : ℕ) → position_or_len p xs ≡ i
    → i < length xs → position p xs ≡ Some i
position_at p xs i e l =
    let t : nat_lt (position_or_len p xs) (length xs) ≡ true =
    subst (λ k. nat_lt k (length xs) ≡ true) (sym e) (lt-ltb i (length xs) l) in
    ap (λ b. cond b (Some (position_or_len p xs)) None) t ∙ ap Some e

position_none : (p : Record → Bool) (xs : List Record) → position_or_len p xs ≡ length xs
    → position p xs ≡ None
position_none p xs e =
    let t : nat_lt (position_or_len p xs) (length xs) ≡ false =
    subst (λ k. nat_lt k (length xs) ≡ false) (sym e)
    (le-ltb (length xs) (length xs) (omega arith)) in
    ap (λ b. cond b (Some (position_or_len p xs)) None) t

pub and_false : (x y : Bool) → x ≡ true → (x && y) ≡ false → y ≡ false
and_false true y h e = e
and_false false y h e = cc

not_tied : (o : Ordering) → o ≡ Less → is_eq o ≡ false
not_tied o h = ap is_eq h

-- ---- a step of the search

module _ (entries : List Record) (path : Path) (up : ByPath entries) (low high : ℕ)
    (found : IsBetween path entries low high) where
  before_at : (middle e : ℕ) → middle < length entries → path_cmp (entry_at entries middle).path
      path ≡ Less → (e < middle) ⊎ (middle ≤ e) → e < middle + 1
      → path_cmp (entry_at entries e).path path ≡ Less
  before_at middle e known less (inl lt) l =
      path_total.trans (entry_at entries e).path (entry_at entries middle).path path
      (up e middle no_record lt known) less
  before_at middle e known less (inr ge) l = let same : middle ≡ e = omega (arith, ge, l) in
      subst (λ k. path_cmp (entry_at entries k).path path ≡ Less) same less

  behind_at : (middle e : ℕ) → (path_cmp (entry_at entries middle).path path ≡ Less → ⊥)
      → (middle < e) ⊎ (e ≤ middle) → middle ≤ e → e < length entries
      → path_cmp (entry_at entries e).path path ≡ Less → ⊥
  behind_at middle e not_before (inl lt) ge l h =
      not_before (path_total.trans (entry_at entries middle).path (entry_at entries e).path path
      (up middle e no_record lt l) h)
  behind_at middle e not_before (inr le) ge l h = let same : e ≡ middle = omega (arith, ge, le) in
      not_before (subst (λ k. path_cmp (entry_at entries k).path path ≡ Less) same h)

  -- the entry in the middle is before the path
  pub between_above : (middle : ℕ) → low ≤ middle → middle < high
      → is_lt (path_cmp (entry_at entries middle).path path) ≡ true
      → IsBetween path entries (middle + 1) high
  between_above middle l m h =
      let known : middle < length entries = omega (arith, m, found.within) in record {
        order = omega (arith, m);
        within = found.within;
        before = λ e k. before_at middle e known
            (less_from (path_cmp (entry_at entries middle).path path) h) (cases_lt e middle) k;
        behind = found.behind;
      }

  -- it isn't
  pub between_below : (middle : ℕ) → low ≤ middle → middle < high
      → is_lt (path_cmp (entry_at entries middle).path path) ≡ false
      → IsBetween path entries low middle
  between_below middle l m h = record {
    order = l;
    within = omega (arith, m, found.within);
    before = found.before;
    behind = λ e k. behind_at middle e (λ less. true≢false (sym (ap is_lt less) ∙ h))
        (cases_lt middle e) k;
  }

-- nothing is left between the bounds
pub from_between : (path : Path) (entries : List Record) (low high : ℕ)
    → IsBetween path entries low high → high ≤ low → IsFrom path entries low
from_between path entries low high found h = record {
  upto = omega (arith, found.order, found.within);
  before = found.before;
  behind = λ e k. found.behind e (omega (arith, k, h, found.order));
}

-- ---- where the search ends

module _ (entries : List Record) (path : Path) (up : ByPath entries) (i : ℕ)
    (first : IsFrom path entries i) where
  not_at_less : (e : ℕ) → e < i → is_entry_at path (entry_at entries e) ≡ false
  not_at_less e l = same_path_is (entry_at entries e).path path
      ∙ not_tied (path_cmp (entry_at entries e).path path) (first.before e l)

  -- the entry there has the path
  pub found_where : stands_at path entries i ≡ true → find_in path entries ≡ Some i
  found_where h =
      let both = and_parts (nat_lt i (length entries)) (is_entry_at path (entry_at entries i)) h in
      let known : i < length entries = grind (arith, nat_tests) in
      position_at (is_entry_at path) entries i
      (position_or_len_is (is_entry_at path) entries i no_record first.upto (λ k m. not_at_less k m)
      (λ m. both.1))
      known

  not_at_here : (e : ℕ) → stands_at path entries i ≡ false → i ≡ e → e < length entries
      → is_entry_at path (entry_at entries e) ≡ false
  not_at_here e h same l =
      subst (λ k. is_entry_at path (entry_at entries k) ≡ false) same
      (and_false (nat_lt i (length entries)) (is_entry_at path (entry_at entries i))
      (lt-ltb i (length entries) (omega (arith, l, same))) h)

  not_at_by : (v : Bool) (e : ℕ) → is_entry_at path (entry_at entries e) ≡ v → i < e
      → e < length entries → is_entry_at path (entry_at entries e) ≡ false
  not_at_by false e h l m = h
  not_at_by true e h l m =
      let same : (entry_at entries e).path ≡ path = path_exact (entry_at entries e).path path h in
      absurd (first.behind i (omega arith) (omega (arith, l, m))
      (subst (λ p. path_cmp (entry_at entries i).path p ≡ Less) same (up i e no_record l m)))

  not_at : (e : ℕ) → stands_at path entries i ≡ false → (e < i) ⊎ (i ≤ e) → (i < e) ⊎ (e ≤ i)
      → e < length entries → is_entry_at path (entry_at entries e) ≡ false
  not_at e h (inl lt) other l = not_at_less e lt
  not_at e h (inr ge) (inl lt) l = not_at_by (is_entry_at path (entry_at entries e)) e refl lt l
  not_at e h (inr ge) (inr le) l = not_at_here e h (omega (arith, ge, le)) l

  -- it hasn't
  pub found_nowhere : stands_at path entries i ≡ false → find_in path entries ≡ None
  found_nowhere h =
      position_none (is_entry_at path) entries
      (position_or_len_is (is_entry_at path) entries (length entries) no_record (omega arith)
      (λ k m. not_at k h (cases_lt k i) (cases_lt i k) m) (λ m. absurd (omega arith)))
