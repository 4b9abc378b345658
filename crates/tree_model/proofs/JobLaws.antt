-- Jobs are directories, one to one.
use Rattle.std.proofs.Common.{◌≡◌, ◌∙◌, ap, sym, refl, subst, ℕ, zero, suc, ◌+◌, ◌-◌, ◌<◌, ◌≤◌, inl}
use Rattle.std.proofs.Common.{inr, Bool, true, false, cond, append-nil, List, [], ◌∷◌, ◌++◌, length}
use Rattle.std.proofs.Common.{map, filter, get_or, arith}
use Rattle.std.specs.Prelude.{Option, Some, None, IfSome, Result, Ok, Err, MatchResult, slice_get}
use Rattle.std.specs.List.Sorted.{IsBinarySearchResult}
use Rattle.std.specs.Ordering.{nat_cmp}
use Rattle.std.proofs.lemmas.Bool.{cases_lt}
use Rattle.std.proofs.lemmas.List.Sorted.{searched}
use Rattle.std.proofs.lemmas.List.{get_or-map, length-append, length-map}
use Rattle.std.proofs.lemmas.Option.{get_or_from_slice_get, slice_get_within, slice_get-get_or}
use Rattle.std.proofs.Math.Seq.{get_or-append_seam}
use Rattle.label_base.specs.Bounded.{all_numbers}
use Rattle.find_records.specs.Record.{Record}
use Rattle.tree_model.specs.Extents.{is_directory, parent_of}
use Rattle.tree_model.specs.Jobs.{IsJobOf, JobsAreDirectories, directories_below, directories_in}
use Rattle.tree_model.specs.Jobs.{entry_home, job_directory, job_for, job_of}
use Rattle.tree_model.proofs.JobLemmas.{below_few, below_rise, filter_snoc, job_is, mapped_at}
use Rattle.tree_model.proofs.JobLemmas.{parent_known, parted, passes_at}

-- one directory more, or none
pub directories_more : (p : ℕ → Bool) (e : ℕ) (row new : List ℕ) → row ≡ filter p (all_numbers e)
    → new ≡ cond (p e) (row ++ e ∷ []) row → new ≡ filter p (all_numbers (e + 1))
directories_more p e row new r n =
    let s : suc e ≡ e + 1 = omega arith in
    n ∙ by_case (p e) refl ∙ ap (λ k. filter p (all_numbers k)) s
  where
    by_case : (b : Bool) → p e ≡ b → cond b (row ++ e ∷ []) row ≡ filter p (all_numbers (suc e))
    by_case true h = ap (λ xs. xs ++ e ∷ []) r
        ∙ sym (filter_snoc p e ∙ ap (λ b. filter p (all_numbers e) ++ cond b (e ∷ []) []) h)
    by_case false h =
        r ∙ sym (filter_snoc p e ∙ ap (λ b. filter p (all_numbers e) ++ cond b (e ∷ []) []) h
        ∙ append-nil (filter p (all_numbers e)))

module _ (entries : List Record) where
  abbrev dirs : List ℕ
  dirs = directories_in entries

  -- the directory at an index, and its job
  pub shown_at : (i d : ℕ) → slice_get dirs i ≡ Some d → IsJobOf entries (suc i) d
  shown_at i d h =
      let l : i < length dirs = slice_get_within dirs i d h in
      let r = passes_at (is_directory entries) (length entries) i l in
      let same : get_or dirs i 0 ≡ d = get_or_from_slice_get dirs i d 0 h in
      let w : d < length entries = omega (arith, r.within, same) in
      let dir : is_directory entries d ≡ true = subst (λ k. is_directory entries k ≡ true) same
      r.passes in
      let index : directories_below entries d ≡ i = ap (directories_below entries) (sym same)
      ∙ r.index in
      record {
        known = w;
        is_one = dir;
        there = h;
        back = sym (job_is entries d w dir) ∙ count_with d dir ∙ ap suc index;
      }
    where
      count_with : (d : ℕ) → is_directory entries d ≡ true → directories_below entries (suc d)
          ≡ suc (directories_below entries d)
      count_with d dir =
          ap length (filter_snoc (is_directory entries) d
          ∙ ap (λ b. filter (is_directory entries) (all_numbers d) ++ cond b (d ∷ []) []) dir)
          ∙ length-append (filter (is_directory entries) (all_numbers d)) (d ∷ []) ∙ omega arith

  -- the directory of a job is an entry
  pub directory_known : (job : ℕ) (found : Option ℕ) → found ≡ job_directory entries job
      → IfSome found (λ d. d < length entries)
  directory_known job None h = tt
  directory_known zero (Some d) h = cc
  directory_known (suc i) (Some d) h = (shown_at i d (sym h)).known

  -- the job of a directory leads back to it
  pub directory_back : (d : ℕ) → d < length entries → is_directory entries d ≡ true
      → job_directory entries (job_of entries d) ≡ Some d
  directory_back d l dir =
      let r = parted (is_directory entries) d (length entries) dir l in
      let front = filter (is_directory entries) (all_numbers d) in
      let count : job_of entries d ≡ suc (length front) = sym (job_is entries d l dir)
      ∙ count_here in
      ap (job_directory entries) count ∙ there front r.rest r.whole
    where
      count_here : directories_below entries (suc d) ≡ suc (directories_below entries d)
      count_here =
          ap length (filter_snoc (is_directory entries) d
          ∙ ap (λ b. filter (is_directory entries) (all_numbers d) ++ cond b (d ∷ []) []) dir)
          ∙ length-append (filter (is_directory entries) (all_numbers d)) (d ∷ []) ∙ omega arith

      there : (front rest : List ℕ) → dirs ≡ front ++ d ∷ rest → slice_get dirs (length front)
          ≡ Some d
      there front rest e =
          slice_get-get_or dirs (length front) 0
          (omega (arith, ap length e, length-append front (d ∷ rest)))
          ∙ ap Some (ap (λ xs. get_or xs (length front) 0) e ∙ get_or-append_seam front d rest 0)

  -- a parent is the directory of its job
  pub parent_job : (found : Option ℕ) (e : ℕ) → parent_of entries e ≡ found
      → job_directory entries (job_for entries found) ≡ found
  parent_job None e h = refl
  parent_job (Some d) e h = let k = parent_known entries e d h in directory_back d k.0 k.1

  pub home_shown : (e : ℕ) → job_directory entries (entry_home entries e) ≡ parent_of entries e
  home_shown e = parent_job (parent_of entries e) e refl

  has_each : (job : ℕ) → 0 < job → job ≤ length dirs → (d : ℕ) × IsJobOf entries job d
  has_each zero low high = absurd (omega (arith, low))
  has_each (suc i) low high = (
    get_or dirs i 0,
    shown_at i (get_or dirs i 0)
        (slice_get-get_or dirs i 0 (omega (arith, high))),
  )

  -- the job of a job's directory is that job
  pub job_back : (job : ℕ) → job ≤ length dirs → job_for entries (job_directory entries job) ≡ job
  job_back zero h = refl
  job_back (suc i) h =
      let t : slice_get dirs i ≡ Some (get_or dirs i 0) =
      slice_get-get_or dirs i 0 (omega (arith, h)) in
      ap (job_for entries) t ∙ (shown_at i (get_or dirs i 0) t).back

  parent_there : (job d : ℕ) → job_directory entries job ≡ Some d
      → job_directory entries (get_or (map (entry_home entries) dirs) (job - 1) 0)
      ≡ parent_of entries d
  parent_there zero d h = cc
  parent_there (suc i) d h =
      let l : i < length dirs = slice_get_within dirs i d h in
      let at : suc i - 1 ≡ i = omega arith in
      ap (job_directory entries)
      (ap (λ k. get_or (map (entry_home entries) dirs) k 0) at
      ∙ get_or-map (entry_home entries) dirs i 0 0 l
      ∙ ap (entry_home entries) (get_or_from_slice_get dirs i d 0 h))
      ∙ home_shown d

  -- ---- the job of a directory, by a search

  rises : (i j : ℕ) → i ≤ j → j < length dirs → get_or dirs i 0 ≤ get_or dirs j 0
  rises i j l m = elim (cases_lt (get_or dirs j 0) (get_or dirs i 0)) [
    | inl lt ↦ (
        let a = passes_at (is_directory entries) (length entries) i (omega (arith, l, m)) in
        let b = passes_at (is_directory entries) (length entries) j m in
        let r = below_rise entries (get_or dirs j 0) (get_or dirs i 0) (omega (arith, lt)) in
        let same : i ≡ j = omega (arith, l, r, a.index, b.index) in
        let more = subst (λ k. get_or dirs j 0 < get_or dirs k 0) same lt in
        absurd (omega (arith, more)))
    | inr ge ↦ ge
  ]

  abbrev Searched : ℕ → Result ℕ ℕ → Type 0
  Searched d (Ok i) = (i + 1 ≡ job_of entries d) × (i < length entries)
  Searched d (Err i) = ⊥

  search_case : (d : ℕ) → d < length entries → is_directory entries d ≡ true → (r : Result ℕ ℕ)
      → MatchResult r (λ i. (i < length dirs) × (get_or dirs i 0 ≡ d))
      (λ i. (i ≤ length dirs) × ((k : ℕ) → k < i → get_or dirs k 0 < d)
      × ((k : ℕ) → i ≤ k → k < length dirs → d < get_or dirs k 0))
      → Searched d r
  search_case d l dir (Ok i) s =
      let t = shown_at i d (slice_get-get_or dirs i 0 s.0 ∙ ap Some s.1) in
      let few : length dirs ≤ length entries = below_few entries (length entries) in
      (omega (arith, t.back), omega (arith, s.0, few))
  search_case d l dir (Err i) s =
      let r = parted (is_directory entries) d (length entries) dir l in
      not_there (filter (is_directory entries) (all_numbers d)) r.rest r.whole
    where
      not_there : (front rest : List ℕ) → dirs ≡ front ++ d ∷ rest → ⊥
      not_there front rest e =
          let within : length front < length dirs =
          omega (arith, ap length e, length-append front (d ∷ rest)) in
          let here : get_or dirs (length front) 0 ≡ d = ap (λ xs. get_or xs (length front) 0) e
          ∙ get_or-append_seam front d rest 0 in
          elim (cases_lt (length front) i) [
            | inl lt ↦ (let less = s.1 (length front) lt in omega (arith, less, here))
            | inr ge ↦ (let more = s.2 (length front) ge within in omega (arith, more, here))
          ]

  pub searched_job : (all : List ℕ) (d : ℕ) (r : Result ℕ ℕ) → all ≡ dirs → d < length entries
      → is_directory entries d ≡ true → IsBinarySearchResult (λ y. nat_cmp y d) all r → Searched d r
  searched_job all d r e l dir h =
      search_case d l dir r
      (searched dirs d r (subst (λ xs. IsBinarySearchResult (λ y. nat_cmp y d) xs r) e h) rises)

  -- as many directories at most as entries
  pub directories_few : (all : List ℕ) → all ≡ dirs → length all ≤ length entries
  directories_few all e = let few : length dirs ≤ length entries =
      below_few entries (length entries) in omega (arith, ap length e, few)

pub jobs_are : (entries : List Record) → JobsAreDirectories entries
jobs_are entries = record {
  count = length-map (directories_in entries) (entry_home entries);
  root = refl;
  each = λ job low high. has_each entries job low
      (omega (arith, high, length-map (directories_in entries) (entry_home entries)));
  own = λ d l dir. record {
    known = l;
    is_one = dir;
    there = directory_back entries d l dir;
    back = refl;
  };
  home = λ e l. ap (job_directory entries) (mapped_at (entry_home entries) (length entries) e l)
      ∙ home_shown entries e;
  parent = parent_there entries;
}
