-- The jobs of a tree.
use Rattle.std.proofs.Common.{◌≡◌, ◌∙◌, ap, sym, refl, subst, ℕ, zero, suc, ◌+◌, ◌-◌, ◌<◌, ◌≤◌}
use Rattle.std.proofs.Common.{◌==◌, Bool, true, false, cond, List, [], ◌∷◌, ◌++◌, length, map}
use Rattle.std.proofs.Common.{filter, get_or, arith, ◌⊎◌, inl, inr, append_assoc, append-nil}
use Rattle.std.proofs.Common.{length-append}
use Rattle.std.specs.Prelude.{Option, Some, None, IfSome}
use Rattle.std.specs.List.{position_or_len}
use Rattle.std.specs.Cmp.{first_so}
use Rattle.std.proofs.lemmas.Bool.{cases_lt, eq-eqb, ne_eqb}
use Rattle.std.proofs.lemmas.List.{ext_get_or, get_or-map, length-map, map-append}
use Rattle.std.proofs.lemmas.List.{get_or_append_left}
use Rattle.std.proofs.lemmas.List.Elements.{filter-append}
use Rattle.std.proofs.lemmas.List.Sums.{position_or_len_is}
use Rattle.std.proofs.Math.Seq.{get_or-append_seam}
use Rattle.label_base.specs.Bounded.{all_numbers}
use Rattle.file_paths.specs.Path.{strictly_below}
use Rattle.label_base.proofs.BoundedLemmas.{IsGreatest, count_numbers, greatest_shown}
use Rattle.find_records.specs.Record.{Record}
use Rattle.walk_steps.specs.Shaped.{IsValid}
use Rattle.walk_steps.specs.declared.shape.Shape.{Shape}
use Rattle.tree_model.specs.Extents.{entry_at, is_above, is_directory, parent_of}
use Rattle.tree_model.specs.Groups.{group_of, groups_in}
use Rattle.tree_model.specs.Jobs.{AreJobs, directories_below, directories_in, entry_home, job_for}
use Rattle.tree_model.specs.Jobs.{job_of, shape_of}
use Rattle.tree_model.specs.Tree.{ByPath}
use Rattle.tree_model.proofs.DeadLemmas.{number_at}
use Rattle.tree_model.proofs.GroupLemmas.{group_at, group_inside}
use Rattle.tree_model.proofs.ParentLemmas.{parent_before}

-- one number more
pub filter_snoc : (p : ℕ → Bool) (k : ℕ) → filter p (all_numbers (suc k)) ≡ filter p (all_numbers k)
    ++ cond (p k) (k ∷ []) []
filter_snoc p k = filter-append p (all_numbers k) (k ∷ [])

count_snoc : (p : ℕ → Bool) (k : ℕ) (b : Bool) → p k ≡ b → length (filter p (all_numbers (suc k)))
    ≡ length (filter p (all_numbers k)) + cond b 1 0
count_snoc p k true e =
    ap length (filter_snoc p k ∙ ap (λ b. filter p (all_numbers k) ++ cond b (k ∷ []) []) e)
    ∙ length-append (filter p (all_numbers k)) (k ∷ [])
count_snoc p k false e =
    ap length (filter_snoc p k ∙ ap (λ b. filter p (all_numbers k) ++ cond b (k ∷ []) []) e
    ∙ append-nil (filter p (all_numbers k))) ∙ omega arith

pub below_more : (entries : List Record) (e : ℕ) → is_directory entries e ≡ true
    → directories_below entries (e + 1) ≡ directories_below entries e + 1
below_more entries e h = let s : e + 1 ≡ suc e = omega arith in ap (directories_below entries) s
    ∙ count_snoc (is_directory entries) e true h

pub below_same : (entries : List Record) (e : ℕ) → is_directory entries e ≡ false
    → directories_below entries (e + 1) ≡ directories_below entries e
below_same entries e h = let s : e + 1 ≡ suc e = omega arith in
    let c = ap (directories_below entries) s ∙ count_snoc (is_directory entries) e false h in
    omega (arith, c)

pub below_few : (entries : List Record) (k : ℕ) → directories_below entries k ≤ k
below_few entries zero = omega arith
below_few entries (suc k) = by_case (is_directory entries k) refl (below_few entries k)
  where
    by_case : (b : Bool) → is_directory entries k ≡ b → directories_below entries k ≤ k
        → directories_below entries (suc k) ≤ suc k
    by_case true e h = omega (arith, count_snoc (is_directory entries) k true e, h)
    by_case false e h = omega (arith, count_snoc (is_directory entries) k false e, h)

pub below_rise : (entries : List Record) (j k : ℕ) → j ≤ k → directories_below entries j
    ≤ directories_below entries k
below_rise entries j zero l = let e : j ≡ 0 = omega (arith, l) in ap_le e
  where
    ap_le : j ≡ 0 → directories_below entries j ≤ directories_below entries 0
    ap_le e = subst (λ i. directories_below entries i ≤ directories_below entries 0) (sym e)
        (omega arith)
below_rise entries j (suc k) l = elim (cases_lt k j) [
  | inl lt ↦ (let e : suc k ≡ j = omega (arith, l, lt) in
      subst (λ i. directories_below entries i ≤ directories_below entries (suc k)) e (omega arith))
  | inr ge ↦ (let r = below_rise entries j k ge in step (is_directory entries k) refl r)
]
  where
    step : (b : Bool) → is_directory entries k ≡ b → directories_below entries j ≤ directories_below
        entries k → directories_below entries j ≤ directories_below entries (suc k)
    step true e h = omega (arith, count_snoc (is_directory entries) k true e, h)
    step false e h = omega (arith, count_snoc (is_directory entries) k false e, h)

-- a job more
pub jobs_next : (entries : List Record) (e count : ℕ) (jobs : List ℕ) → AreJobs entries e jobs
    → count ≡ directories_below entries (e + 1) → AreJobs entries (e + 1) (jobs ++ count ∷ [])
jobs_next entries e count jobs r h = record {
  sized = omega (arith, length-append jobs (count ∷ []), r.sized);
  each = λ k l. elim (cases_lt k e) [
    | inl lt ↦ get_or_append_left jobs (count ∷ []) 0 k (omega (arith, lt, r.sized)) ∙ r.each k lt
    | inr ge ↦ (
        let same : length jobs ≡ k = omega (arith, l, ge, r.sized) in
        let s : e + 1 ≡ suc k = omega (arith, l, ge) in
        subst (λ j. get_or (jobs ++ count ∷ []) j 0 ≡ count) same
        (get_or-append_seam jobs count [] 0) ∙ h ∙ ap (directories_below entries) s)
  ];
}

-- the number at an index of those that pass
pub record PassesAt (p : ℕ → Bool) (k i d : ℕ) : Type 0 where
  pub within : d < k
  pub passes : p d ≡ true
  pub index : length (filter p (all_numbers d)) ≡ i

passes_case : (p : ℕ → Bool) (k i : ℕ) (b : Bool) → p k ≡ b
    → i < length (filter p (all_numbers k) ++ cond b (k ∷ []) [])
    → (i < length (filter p (all_numbers k))
    → PassesAt p k i (get_or (filter p (all_numbers k)) i 0))
    → PassesAt p (suc k) i (get_or (filter p (all_numbers k) ++ cond b (k ∷ []) []) i 0)
passes_case p k i true e l f = elim (cases_lt i (length (filter p (all_numbers k)))) [
  | inl lt ↦ (
      let r = f lt in
      subst (λ d. PassesAt p (suc k) i d)
      (sym (get_or_append_left (filter p (all_numbers k)) (k ∷ []) 0 i lt))
      (record { within = omega (arith, r.within); passes = r.passes; index = r.index }))
  | inr ge ↦ (
      let same : length (filter p (all_numbers k)) ≡ i =
      omega (arith, l, ge, length-append (filter p (all_numbers k)) (k ∷ [])) in
      let here : get_or (filter p (all_numbers k) ++ k ∷ []) i 0 ≡ k =
      subst (λ j. get_or (filter p (all_numbers k) ++ k ∷ []) j 0 ≡ k) same
      (get_or-append_seam (filter p (all_numbers k)) k [] 0) in
      subst (λ d. PassesAt p (suc k) i d) (sym here)
      (record { within = omega arith; passes = e; index = same }))
]
passes_case p k i false e l f =
    let same = append-nil (filter p (all_numbers k)) in
    let r = f (subst (λ xs. i < length xs) same l) in
    subst (λ xs. PassesAt p (suc k) i (get_or xs i 0)) (sym same)
    (record { within = omega (arith, r.within); passes = r.passes; index = r.index })

pub passes_at : (p : ℕ → Bool) (k i : ℕ) → i < length (filter p (all_numbers k))
    → PassesAt p k i (get_or (filter p (all_numbers k)) i 0)
passes_at p zero i l = absurd (omega (arith, l))
passes_at p (suc k) i l =
    subst (λ xs. PassesAt p (suc k) i (get_or xs i 0)) (sym (filter_snoc p k))
    (passes_case p k i (p k) refl (subst (λ xs. i < length xs) (filter_snoc p k) l)
    (λ m. passes_at p k i m))

-- those that pass, up to one of them and behind it
pub record Parted (p : ℕ → Bool) (d : ℕ) (all : List ℕ) : Type 0 where
  pub rest : List ℕ
  pub whole : all ≡ filter p (all_numbers d) ++ d ∷ rest

parted_case : (p : ℕ → Bool) (d n : ℕ) → p d ≡ true → (d < n) ⊎ (n ≤ d) → d < suc n
    → (d < n → Parted p d (filter p (all_numbers n))) → Parted p d (filter p (all_numbers (suc n)))
parted_case p d n h (inl lt) l f =
    let r = f lt in
    record {
      rest = r.rest ++ cond (p n) (n ∷ []) [];
      whole = filter_snoc p n ∙ ap (λ xs. xs ++ cond (p n) (n ∷ []) []) r.whole
          ∙ append_assoc (filter p (all_numbers d)) (d ∷ r.rest) (cond (p n) (n ∷ []) []);
    }
parted_case p d n h (inr ge) l f =
    let same : d ≡ n = omega (arith, l, ge) in
    subst (λ k. Parted p d (filter p (all_numbers (suc k)))) same
    (record {
      rest = [];
      whole = filter_snoc p d
          ∙ ap (λ b. filter p (all_numbers d) ++ cond b (d ∷ []) []) h;
    })

pub parted : (p : ℕ → Bool) (d n : ℕ) → p d ≡ true → d < n → Parted p d (filter p (all_numbers n))
parted p d zero h l = absurd (omega (arith, l))
parted p d (suc n) h l = parted_case p d n h (cases_lt d n) l (λ m. parted p d n h m)

place_is : (p : ℕ → Bool) (d : ℕ) (rest : List ℕ)
    → position_or_len (λ x. x == d) (filter p (all_numbers d) ++ d ∷ rest)
    ≡ length (filter p (all_numbers d))
place_is p d rest =
    let front = filter p (all_numbers d) in
    position_or_len_is (λ x. x == d) (front ++ d ∷ rest) (length front) 0
    (omega (arith, length-append front (d ∷ rest)))
    (λ k l. let r = passes_at p d k l in
    ap (λ x. x == d) (get_or_append_left front (d ∷ rest) 0 k l)
    ∙ ne_eqb (get_or front k 0) d (λ same. omega (arith, r.within, same)))
    (λ l. ap (λ x. x == d) (get_or-append_seam front d rest 0) ∙ eq-eqb d d refl)

-- the job of a directory is how many there are up to it
pub job_is : (entries : List Record) (d : ℕ) → d < length entries → is_directory entries d ≡ true
    → directories_below entries (suc d) ≡ job_of entries d
job_is entries d l h =
    let r = parted (is_directory entries) d (length entries) h l in
    let place : position_or_len (λ x. x == d) (directories_in entries) ≡ directories_below entries
    d = ap (position_or_len (λ x. x == d)) r.whole ∙ place_is (is_directory entries) d r.rest in
    omega (arith, count_snoc (is_directory entries) d true h, place)

parent_case : (entries : List Record) (e d : ℕ) (found : Option ℕ)
    → IsGreatest (length entries) (is_above entries e) found → found ≡ Some d → (d < length entries)
    × (is_directory entries d ≡ true)
parent_case entries e d None g h = cc
parent_case entries e d (Some x) g h =
    let same : x ≡ d = cc in
    let w : d < length entries = omega (arith, g.0, same) in (
      w,
      subst (λ k. is_directory entries k ≡ true) same
          (first_so (is_directory entries x)
          (strictly_below (entry_at entries e).path (entry_at entries x).path) g.1),
    )

-- a parent is a directory
pub parent_known : (entries : List Record) (e d : ℕ) → parent_of entries e ≡ Some d
    → (d < length entries) × (is_directory entries d ≡ true)
parent_known entries e d h = parent_case entries e d (parent_of entries e)
    (greatest_shown (length entries) (is_above entries e)) h

pub home_some : (entries : List Record) (e d : ℕ) → parent_of entries e ≡ Some d
    → directories_below entries (suc d) ≡ entry_home entries e
home_some entries e d h = let k = parent_known entries e d h in job_is entries d k.0 k.1
    ∙ sym (ap (job_for entries) h)

pub home_none : (entries : List Record) (e : ℕ) → parent_of entries e ≡ None → entry_home entries e
    ≡ 0
home_none entries e h = ap (job_for entries) h

low_case : (entries : List Record) (e : ℕ) (found : Option ℕ) → parent_of entries e ≡ found
    → IfSome found (λ d. d < e) → entry_home entries e ≤ directories_below entries e
low_case entries e None h b = omega (arith, home_none entries e h)
low_case entries e (Some d) h b =
    omega (arith, home_some entries e d h, below_rise entries (suc d) e b)

home_low : (entries : List Record) (up : ByPath entries) (e : ℕ) → entry_home entries e
    ≤ directories_below entries e
home_low entries up e = low_case entries e (parent_of entries e) refl (parent_before entries up e)

-- one more
pub homes_more : (f : ℕ → ℕ) (e : ℕ) (row new : List ℕ) → row ≡ map f (all_numbers e)
    → new ≡ row ++ f e ∷ [] → new ≡ map f (all_numbers (e + 1))
homes_more f e row new r n =
    let s : suc e ≡ e + 1 = omega arith in
    n ∙ ap (λ xs. xs ++ f e ∷ []) r ∙ sym (map-append f (all_numbers e) (e ∷ []))
    ∙ ap (λ k. map f (all_numbers k)) s

map_cond : (f : ℕ → ℕ) (b : Bool) (xs : List ℕ) (e : ℕ) → cond b (map f xs ++ f e ∷ []) (map f xs)
    ≡ map f (xs ++ cond b (e ∷ []) [])
map_cond f true xs e = sym (map-append f xs (e ∷ []))
map_cond f false xs e = ap (map f) (sym (append-nil xs))

pub parents_more : (f : ℕ → ℕ) (p : ℕ → Bool) (e : ℕ) (row new : List ℕ)
    → row ≡ map f (filter p (all_numbers e)) → new ≡ cond (p e) (row ++ f e ∷ []) row
    → new ≡ map f (filter p (all_numbers (e + 1)))
parents_more f p e row new r n =
    let s : suc e ≡ e + 1 = omega arith in
    n ∙ ap (λ xs. cond (p e) (xs ++ f e ∷ []) xs) r ∙ map_cond f (p e) (filter p (all_numbers e)) e
    ∙ ap (map f) (sym (filter_snoc p e)) ∙ ap (λ k. map f (filter p (all_numbers k))) s

pub mapped_at : (f : ℕ → ℕ) (n k : ℕ) → k < n → get_or (map f (all_numbers n)) k 0 ≡ f k
mapped_at f n k l = get_or-map f (all_numbers n) k 0 0 (omega (arith, l, count_numbers n))
    ∙ ap f (number_at n k l)

mapped_count : (f : ℕ → ℕ) (n : ℕ) → length (map f (all_numbers n)) ≡ n
mapped_count f n = length-map (all_numbers n) f ∙ count_numbers n

-- a list that is told item by item
pub shown_all : (f : ℕ → ℕ) (n : ℕ) (xs : List ℕ) → length xs ≡ n
    → ((e : ℕ) → e < n → get_or xs e 0 ≡ f e) → xs ≡ map f (all_numbers n)
shown_all f n xs s h = ext_get_or 0 xs (map f (all_numbers n)) (s ∙ sym (mapped_count f n))
    (λ e l. let w : e < n = omega (arith, l, s) in h e w ∙ sym (mapped_at f n e w))

-- the shape of a tree is valid
pub shape_valid : (entries : List Record) → ByPath entries → IsValid (shape_of entries)
shape_valid entries up =
    let n = length entries in
    let f = entry_home entries in
    let dirs = directories_in entries in
    let jobs : length (map f dirs) ≡ directories_below entries n = length-map dirs f in
    let homes = mapped_count f n in
    let groups = mapped_count (group_of entries) n in
    record {
      paired = groups ∙ sym homes;
      parents = λ job low high. (
          let i : job - 1 < length dirs = omega (arith, low, high, jobs) in
          let r = passes_at (is_directory entries) n (job - 1) i in
          let t : get_or (map f dirs) (job - 1) 0 ≡ f (get_or dirs (job - 1) 0) =
          get_or-map f dirs (job - 1) 0 0 i in
          let u = home_low entries up (get_or dirs (job - 1) 0) in
          omega (arith, t, u, r.index, low));
      homes = λ e l. (
          let w : e < n = omega (arith, l, homes) in
          let t = mapped_at f n e w in
          let u = home_low entries up e in
          let v = below_rise entries e n (omega (arith, w)) in
          omega (arith, t, u, v, jobs));
      groups = λ e l. (
          let w : e < n = omega (arith, l, homes) in
          let t = mapped_at (group_of entries) n e w in
          let u = subst (λ k. k < groups_in entries) (group_at entries e w)
          (group_inside entries e w) in
          subst (λ k. k < groups_in entries) (sym t) u);
    }

abbrev pub shape_value : List ℕ → List ℕ → List ℕ → ℕ → Shape
shape_value parents homes group_of groups =
    record { parents = parents; homes = homes; group_of = group_of; groups = groups }

pub shape_is : (entries : List Record) (parents homes groups : List ℕ) (total : ℕ)
    → parents ≡ map (entry_home entries) (directories_in entries)
    → homes ≡ map (entry_home entries) (all_numbers (length entries))
    → groups ≡ map (group_of entries) (all_numbers (length entries)) → total ≡ groups_in entries
    → shape_value parents homes groups total ≡ shape_of entries
shape_is entries parents homes groups total p h g t = λ i. shape_value (p i) (h i) (g i) (t i)
