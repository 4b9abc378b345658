-- Whether an entry is the next of the directories.
use Rattle.std.proofs.Common.{◌≡◌, ◌∙◌, ap, sym, refl, subst, ℕ, suc, ◌+◌, ◌<◌, ◌==◌, Bool, true}
use Rattle.std.proofs.Common.{false, List, length, get_or, arith}
use Rattle.std.specs.Prelude.{Some, None, slice_get}
use Rattle.std.proofs.lemmas.Bool.{eq-eqb, ne_eqb, true≢false}
use Rattle.std.proofs.lemmas.Option.{same_Some}
use Rattle.find_records.specs.Record.{Record}
use Rattle.tree_model.specs.Extents.{is_directory}
use Rattle.tree_model.specs.Jobs.{directories_below, directories_in, job_directory, job_of}
use Rattle.tree_model.proofs.JobLemmas.{below_more, job_is, passes_at}
use Rattle.tree_model.proofs.JobLaws.{directory_back, shown_at}

-- a directory stands behind those before it
next_there : (entries : List Record) (e : ℕ) → e < length entries → is_directory entries e ≡ true
    → slice_get (directories_in entries) (directories_below entries e) ≡ Some e
next_there entries e l h =
    let next : e + 1 ≡ suc e = omega arith in
    let same : job_of entries e ≡ suc (directories_below entries e) =
    omega (arith, job_is entries e l h, ap (directories_below entries) next, below_more entries e h)
    in
    subst (λ j. job_directory entries j ≡ Some e) same (directory_back entries e l h)

pub next_some : (entries : List Record) (e d : ℕ) → e < length entries
    → slice_get (directories_in entries) (directories_below entries e) ≡ Some d
    → (d == e) ≡ is_directory entries e
next_some entries e d l found = by_case (is_directory entries e) refl
  where
    by_case : (b : Bool) → is_directory entries e ≡ b → (d == e) ≡ is_directory entries e
    by_case true h =
        eq-eqb d e (same_Some d e (sym found ∙ next_there entries e l h)) ∙ sym h
    by_case false h =
        ne_eqb d e (λ same. true≢false
        (sym (shown_at entries (directories_below entries e) d found).is_one
        ∙ ap (is_directory entries) same ∙ h)) ∙ sym h

pub next_none : (entries : List Record) (e : ℕ) → e < length entries
    → slice_get (directories_in entries) (directories_below entries e) ≡ None
    → false ≡ is_directory entries e
next_none entries e l found = by_case (is_directory entries e) refl
  where
    no_place : Some e ≡ None → false ≡ is_directory entries e
    no_place same = cc

    by_case : (b : Bool) → is_directory entries e ≡ b → false ≡ is_directory entries e
    by_case true h = no_place (sym (next_there entries e l h) ∙ found)
    by_case false h = sym h

-- each of the directories is an entry
pub next_known : (entries : List Record) (i : ℕ) → i < length (directories_in entries)
    → get_or (directories_in entries) i 0 < length entries
next_known entries i l = (passes_at (is_directory entries) (length entries) i l).within
