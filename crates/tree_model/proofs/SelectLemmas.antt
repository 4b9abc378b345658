-- Operands and excluded paths, one after the other.
use Rattle.std.proofs.Common.{◌≡◌, ◌∙◌, ap, sym, refl, ℕ, suc, ◌+◌, ◌≤◌, ◌||◌, Bool, true, false}
use Rattle.std.proofs.Common.{not, cond, List, [], ◌∷◌, ◌++◌, length, take, drop, arith, drop-cons}
use Rattle.std.proofs.Common.{append_assoc, append-nil}
use Rattle.std.specs.Prelude.{◌&&◌, Option, Some, None, is_some, slice_get}
use Rattle.std.specs.List.{list_any}
use Rattle.std.proofs.lemmas.List.{take_more, drop_all}
use Rattle.std.proofs.lemmas.List.Folds.{list_any-append}
use Rattle.std.proofs.lemmas.Option.{slice_get_within, get_or_from_slice_get}
use Rattle.file_paths.specs.Path.{Path, at_or_below}
use Rattle.find_records.specs.Record.{Record}
use Rattle.tree_model.specs.Extents.{entry_at}
use Rattle.tree_model.specs.LiveLists.{AreFlags, IsCleared, AreMarkedLive}
use Rattle.tree_model.specs.Selection.{absent_from, admits_found, is_admitted, is_excluded}
use Rattle.tree_model.specs.Selection.{SelectedValue}
use Rattle.tree_model.specs.Tree.{find_in}
use Rattle.tree_model.specs.declared.choice.Choice.{Choice}
use Rattle.tree_model.proofs.MarkLemmas.{or_false}

pub flags_marked : (n : ℕ) (p q r : ℕ → Bool) (live new : List Bool) → AreFlags n p live
    → AreMarkedLive q live new → ((e : ℕ) → r e ≡ (p e || q e)) → AreFlags n r new
flags_marked n p q r live new f m h = record {
  sized = m.sized ∙ f.sized;
  each = λ e l. m.marks e (omega (arith, l, f.sized)) ∙ ap (λ b. b || q e) (f.each e l) ∙ sym (h e);
}

pub flags_cleared : (n : ℕ) (p q r : ℕ → Bool) (live new : List Bool) → AreFlags n p live
    → IsCleared q live new → ((e : ℕ) → r e ≡ (p e && not (q e))) → AreFlags n r new
flags_cleared n p q r live new f m h = record {
  sized = m.sized ∙ f.sized;
  each = λ e l. m.clears e (omega (arith, l, f.sized)) ∙ ap (λ b. b && not (q e)) (f.each e l)
      ∙ sym (h e);
}

pub flags_same : (n : ℕ) (p r : ℕ → Bool) (live : List Bool) → AreFlags n p live
    → ((e : ℕ) → r e ≡ p e) → AreFlags n r live
flags_same n p r live f h = record { sized = f.sized; each = λ e l. f.each e l ∙ sym (h e) }

any_push : (p : Path → Bool) (paths : List Path) (path : Path) → list_any p (paths ++ path ∷ [])
    ≡ (list_any p paths || p path)
any_push p paths path = list_any-append p paths (path ∷ [])
    ∙ ap (λ b. list_any p paths || b) (or_false (p path))

any_more : (p : Path → Bool) (paths : List Path) (i : ℕ) (path : Path)
    → slice_get paths i ≡ Some path → list_any p (take (i + 1) paths)
    ≡ (list_any p (take i paths) || p path)
any_more p paths i path h =
    let l = slice_get_within paths i path h in
    ap (list_any p)
    (take_more paths i path l
    ∙ ap (λ z. take i paths ++ z ∷ []) (get_or_from_slice_get paths i path path h))
    ∙ any_push p (take i paths) path

-- one operand more
pub admitted_more : (choice : Choice) (entries : List Record) (operands : List Path) (i : ℕ)
    (path : Path) (found : Option ℕ) → slice_get operands i ≡ Some path → find_in path entries
    ≡ found
    → (e : ℕ) → is_admitted choice entries (take (i + 1) operands) e
    ≡ (is_admitted choice entries (take i operands) e || admits_found choice entries found e)
admitted_more choice entries operands i path found h f e =
    any_more (λ path. admits_found choice entries (find_in path entries) e) operands i path h
    ∙ ap (λ o. is_admitted choice entries (take i operands) e || admits_found choice entries o e) f

and_or : (a b c : Bool) → (a && not (b || c)) ≡ ((a && not b) && not c)
and_or true true c = refl
and_or true false c = refl
and_or false b c = refl

-- one excluded path more
pub excluded_more : (a : Bool) (entries : List Record) (excluded : List Path) (i : ℕ) (path : Path)
    → slice_get excluded i ≡ Some path
    → (e : ℕ) → (a && not (is_excluded entries (take (i + 1) excluded) e))
    ≡ ((a && not (is_excluded entries (take i excluded) e)) && not
    (at_or_below (entry_at entries e).path path))
excluded_more a entries excluded i path h e =
    ap (λ b. a && not b) (any_more (λ path. at_or_below (entry_at entries e).path path) excluded i
    path h)
    ∙ and_or a (is_excluded entries (take i excluded) e)
    (at_or_below (entry_at entries e).path path)

absent_step : (i : ℕ) (entries : List Record) (operands : List Path) (path : Path)
    → slice_get operands i ≡ Some path
    → absent_from i entries (drop i operands) ≡ cond (is_some (find_in path entries))
    (absent_from (i + 1) entries (drop (i + 1) operands))
    (i ∷ absent_from (i + 1) entries (drop (i + 1) operands))
absent_step i entries operands path h =
    let l = slice_get_within operands i path h in
    let own = get_or_from_slice_get operands i path path h in
    ap (absent_from i entries) (drop-cons operands i path l)
    ∙ ap (λ p. cond (is_some (find_in p entries))
    (absent_from (suc i) entries (drop (suc i) operands))
    (i ∷ absent_from (suc i) entries (drop (suc i) operands))) own
    ∙ (let s : suc i ≡ i + 1 = omega arith in
    ap (λ k. cond (is_some (find_in path entries)) (absent_from k entries (drop k operands))
    (i ∷ absent_from k entries (drop k operands))) s)

pub absent_found : (i o : ℕ) (entries : List Record) (operands : List Path) (path : Path)
    (absent : List ℕ) → slice_get operands i ≡ Some path → find_in path entries ≡ Some o
    → absent ++ absent_from (i + 1) entries (drop (i + 1) operands) ≡ absent ++ absent_from i
    entries (drop i operands)
absent_found i o entries operands path absent h f =
    ap (λ xs. absent ++ xs) (sym (absent_step i entries operands path h
    ∙ ap (λ found. cond (is_some found) (absent_from (i + 1) entries (drop (i + 1) operands))
    (i ∷ absent_from (i + 1) entries (drop (i + 1) operands))) f))

pub absent_none : (i : ℕ) (entries : List Record) (operands : List Path) (path : Path)
    (absent new : List ℕ) → slice_get operands i ≡ Some path → find_in path entries ≡ None
    → new ≡ absent ++ i ∷ []
    → new ++ absent_from (i + 1) entries (drop (i + 1) operands) ≡ absent ++ absent_from i entries
    (drop i operands)
absent_none i entries operands path absent new h f n =
    rw (n, append_assoc)
    (ap (λ xs. absent ++ xs) (sym (absent_step i entries operands path h
    ∙ ap (λ found. cond (is_some found) (absent_from (i + 1) entries (drop (i + 1) operands))
    (i ∷ absent_from (i + 1) entries (drop (i + 1) operands))) f)))

pub absent_end : (i : ℕ) (entries : List Record) (operands : List Path) (absent all : List ℕ)
    → length operands ≤ i → absent ++ absent_from i entries (drop i operands) ≡ all → absent ≡ all
absent_end i entries operands absent all l h = sym (append-nil absent)
    ∙ ap (λ ps. absent ++ absent_from i entries ps) (sym (drop_all i operands l)) ∙ h

abbrev pub value_of : List Bool → List ℕ → SelectedValue
value_of live absent = record { live = live; absent = absent }
