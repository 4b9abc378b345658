-- The entries that a job holds, one after the other.
use Rattle.std.proofs.Common.{◌≡◌, ◌∙◌, ap, sym, refl, subst, ℕ, zero, suc, ◌+◌, ◌-◌, ◌<◌, ◌≤◌}
use Rattle.std.proofs.Common.{◌==◌, ◌⊎◌, inl, inr, Bool, true, false, cond, List, [], ◌∷◌, length}
use Rattle.std.proofs.Common.{filter, drop, arith}
use Rattle.std.specs.Prelude.{Option, Some, None, IfSome, nat_lt}
use Rattle.std.specs.Cmp.{first_so}
use Rattle.std.proofs.lemmas.Bool.{cases_lt, eq-eqb, eqb-true, false_from_ne_true, lt-ltb, ltb-true}
use Rattle.std.proofs.lemmas.Bool.{true≢false}
use Rattle.std.proofs.lemmas.Option.{same_Some}
use Rattle.std.proofs.lemmas.List.{drop_all, drop_more}
use Rattle.label_base.specs.Bounded.{all_numbers}
use Rattle.file_paths.specs.Path.{strictly_below}
use Rattle.label_base.proofs.BoundedLemmas.{IsGreatest, count_numbers, greatest_is, greatest_none}
use Rattle.label_base.proofs.BoundedLemmas.{greatest_shown}
use Rattle.find_records.specs.Record.{Record}
use Rattle.tree_model.specs.Extents.{entry_at, extent_of, is_above, is_directory, parent_of}
use Rattle.tree_model.specs.Jobs.{IsPlaced, directories_in, end_under, children_from}
use Rattle.tree_model.specs.Jobs.{entries_of_job, entry_home, job_directory, job_for}
use Rattle.tree_model.specs.Tree.{ByPath}
use Rattle.tree_model.proofs.DeadLemmas.{number_at}
use Rattle.tree_model.proofs.ExtentLemmas.{extent_has, extent_shown, has_extent, in_chain}
use Rattle.tree_model.proofs.JobLaws.{home_shown, job_back, shown_at}
use Rattle.tree_model.proofs.JobLemmas.{parent_known}
use Rattle.tree_model.proofs.ParentLemmas.{above_before, above_between, above_in, parent_before}
use Rattle.tree_model.proofs.ParentLemmas.{strict_is}

-- ---- lists

some_here : (test : ℕ → Bool) (n place : ℕ) → place < n → test place ≡ true
    → filter test (drop place (all_numbers n)) ≡ place ∷ filter test
    (drop (place + 1) (all_numbers n))
some_here test n place l h =
    ap (filter test) (drop_more (all_numbers n) place 0 (omega (arith, l, count_numbers n)))
    ∙ (λ i. filter test (number_at n place l i ∷ drop (place + 1) (all_numbers n)))
    ∙ ap (λ b. cond b (place ∷ filter test (drop (place + 1) (all_numbers n)))
    (filter test (drop (place + 1) (all_numbers n)))) h

none_here : (test : ℕ → Bool) (n place : ℕ) → place < n → test place ≡ false
    → filter test (drop place (all_numbers n)) ≡ filter test (drop (place + 1) (all_numbers n))
none_here test n place l h =
    ap (filter test) (drop_more (all_numbers n) place 0 (omega (arith, l, count_numbers n)))
    ∙ (λ i. filter test (number_at n place l i ∷ drop (place + 1) (all_numbers n)))
    ∙ ap (λ b. cond b (place ∷ filter test (drop (place + 1) (all_numbers n)))
    (filter test (drop (place + 1) (all_numbers n)))) h

-- those that don't pass are left out
passed_over : (test : ℕ → Bool) (n place steps : ℕ) → place + steps ≤ n
    → ((k : ℕ) → place ≤ k → k < place + steps → test k ≡ false)
    → filter test (drop place (all_numbers n)) ≡ filter test (drop (place + steps) (all_numbers n))
passed_over test n place zero l h = let e : place ≡ place + 0 = omega arith in
    ap (λ k. filter test (drop k (all_numbers n))) e
passed_over test n place (suc steps) l h =
    let e : place + 1 + steps ≡ place + suc steps = omega arith in
    none_here test n place (omega (arith, l)) (h place (omega arith) (omega arith))
    ∙ passed_over test n (place + 1) steps (omega (arith, l))
    (λ k a b. h k (omega (arith, a)) (omega (arith, b)))
    ∙ ap (λ k. filter test (drop k (all_numbers n))) e

over : (test : ℕ → Bool) (n place to : ℕ) → place ≤ to → to ≤ n
    → ((k : ℕ) → place ≤ k → k < to → test k ≡ false) → filter test (drop place (all_numbers n))
    ≡ filter test (drop to (all_numbers n))
over test n place to l m h =
    let e : place + (to - place) ≡ to = omega (arith, l) in
    passed_over test n place (to - place) (omega (arith, l, m))
    (λ k a b. h k a (omega (arith, b, l))) ∙ ap (λ k. filter test (drop k (all_numbers n))) e

ended : (test : ℕ → Bool) (n place : ℕ) → place ≤ n → ((k : ℕ) → place ≤ k → k < n → test k ≡ false)
    → filter test (drop place (all_numbers n)) ≡ []
ended test n place l h =
    over test n place n l (omega arith) h
    ∙ ap (filter test) (drop_all n (all_numbers n) (omega (arith, count_numbers n)))

-- ---- the parents of entries

-- the next entry behind one that isn't below it, if it is a directory
abbrev IsNext : List Record → ℕ → ℕ → Type 0
IsNext entries e next = ((is_directory entries e ≡ true) × (next ≡ extent_of entries e)) ⊎
    ((is_directory entries e ≡ false) × (next ≡ e + 1))

next_from : (entries : List Record) (e next : ℕ) → next ≡ cond (is_directory entries e)
    (extent_of entries e) (e + 1) → IsNext entries e next
next_from entries e next h = by_case (is_directory entries e) refl h
  where
    by_case : (b : Bool) → is_directory entries e ≡ b → next ≡ cond b (extent_of entries e) (e + 1)
        → IsNext entries e next
    by_case true d h = inl (d, h)
    by_case false d h = inr (d, h)

before_some : (next end e : ℕ) → cond (nat_lt next end) (Some next) None ≡ Some e → (next < end)
    × (next ≡ e)
before_some next end e h = by_case (nat_lt next end) refl h
  where
    by_case : (b : Bool) → nat_lt next end ≡ b → cond b (Some next) None ≡ Some e → (next < end)
        × (next ≡ e)
    by_case true l h = (ltb-true next end l, same_Some next e h)
    by_case false l h = cc

before_none : (next end : ℕ) → cond (nat_lt next end) (Some next) None ≡ None → end ≤ next
before_none next end h = elim (cases_lt next end) [
  | inl lt ↦ (let t = lt-ltb next end lt in let f = ap (λ b. cond b (Some next) None) (sym t) ∙ h in
      cc)
  | inr ge ↦ ge
]

module _ (entries : List Record) (up : ByPath entries) where
  abbrev n : ℕ
  n = length entries

  is_dir : (d e : ℕ) → is_above entries e d ≡ true → is_directory entries d ≡ true
  is_dir d e h =
      first_so (is_directory entries d)
      (strictly_below (entry_at entries e).path (entry_at entries d).path) h

  -- a directory is above what stands behind it in its extent
  above_from : (d e : ℕ) → is_directory entries d ≡ true → d < e → e < extent_of entries d → d < n
      → is_above entries e d ≡ true
  above_from d e dir l m k =
      let t = extent_shown entries up d k in
      let w : e < n = omega (arith, m, t.within) in
      let below = strict_is entries up d e l w ∙ extent_has entries up d e k (omega (arith, l)) m in
      rw (dir, below) refl

  above_end : (d e : ℕ) → d < n → e < n → is_above entries e d ≡ true → e < extent_of entries d
  above_end d e l m h = (has_extent entries up d e l m (above_in entries up d e h)).1

  nested_end : (d c : ℕ) → d < n → d ≤ c → c < extent_of entries d
      → extent_of entries c ≤ extent_of entries d
  nested_end d c l a b =
      let t = extent_shown entries up d l in
      let w : c < n = omega (arith, b, t.within) in
      let s = extent_shown entries up c w in
      let last = has_extent entries up d (extent_of entries c - 1) l
      (omega (arith, s.behind, s.within))
      (in_chain entries up d c (extent_of entries c - 1) (extent_has entries up d c l a b)
      s.last_in) in
      omega (arith, last.1, s.behind)

  next_behind : (e next : ℕ) → e < n → IsNext entries e next → e < next
  next_behind e next l (inl h) = let t = extent_shown entries up e l in omega (arith, t.behind, h.1)
  next_behind e next l (inr h) = omega (arith, h.1)

  next_within : (e next : ℕ) → e < n → IsNext entries e next → next ≤ n
  next_within e next l (inl h) = let t = extent_shown entries up e l in omega (arith, t.within, h.1)
  next_within e next l (inr h) = omega (arith, h.1, l)

  -- what is above the next one is above the entry
  still_above : (e next x : ℕ) → e < n → IsNext entries e next → next < n → x < n
      → is_above entries next x ≡ true → is_above entries e x ≡ true
  still_above e next x l h m w a = elim (cases_lt x e) [
    | inl lt ↦ above_between entries up x e next lt (next_behind e next l h) m a
    | inr ge ↦ absurd (no_other h ge)
  ]
    where
      no_other : IsNext entries e next → e ≤ x → ⊥
      no_other (inl k) from =
          let b = above_before entries up x next w a in
          let s = nested_end e x l from (omega (arith, b, k.1)) in
          let t = above_end x next w m a in
          omega (arith, s, t, k.1)
      no_other (inr k) from =
          let b = above_before entries up x next w a in
          let same : x ≡ e = omega (arith, b, from, k.1) in
          let dir = subst (λ j. is_directory entries j ≡ true) same (is_dir x next a) in cc

  parent_moves : (e next : ℕ) (found : Option ℕ) → e < n → IsNext entries e next
      → next < end_under entries found → IsGreatest n (is_above entries e) found
      → parent_of entries next ≡ found
  parent_moves e next None l h m g =
      greatest_none n (is_above entries next)
      (λ x w. false_from_ne_true (is_above entries next x)
      (λ a. let b = still_above e next x l h m w a in let c = g x w in cc))
  parent_moves e next (Some d) l h m g =
      let t = extent_shown entries up d g.0 in
      let w : next < n = omega (arith, m, t.within) in
      let before = above_before entries up d e g.0 g.1 in
      greatest_is n (is_above entries next) d g.0
      (above_from d next (is_dir d e g.1) (omega (arith, before, next_behind e next l h)) m g.0)
      (λ x a b. false_from_ne_true (is_above entries next x)
      (λ k. let s = still_above e next x l h w b k in let c = g.2 x a b in cc))

  -- the parent of the next one, up to the end of the directory, is that of the entry
  next_parent : (e next : ℕ) (found : Option ℕ) → e < n → IsNext entries e next
      → parent_of entries e ≡ found → next < end_under entries found → parent_of entries next
      ≡ found
  next_parent e next found l h p m =
      parent_moves e next found l h m
      (subst (IsGreatest n (is_above entries e)) p (greatest_shown n (is_above entries e)))

  -- those between have another parent, which stands from the entry on
  inner_parent : (d k : ℕ) (found : Option ℕ) → IsGreatest n (is_above entries k) found → d < n
      → is_above entries k d ≡ true → (found ≡ None → ⊥) × ((x : ℕ) → found ≡ Some x → d ≤ x)
  inner_parent d k None g l h = absurd (true≢false (sym h ∙ g d l))
  inner_parent d k (Some y) g l h = (
    (λ e. cc),
    (λ x e. elim (cases_lt x d) [
      | inl lt ↦ (let same = same_Some y x e in
          absurd (true≢false (sym h ∙ g.2 d (omega (arith, lt, same)) l)))
      | inr ge ↦ ge
    ]),
  )

  between_differ : (e next k : ℕ) → e < n → IsNext entries e next → e < k → k < next
      → parent_of entries k ≡ parent_of entries e → ⊥
  between_differ e next k l (inr h) a b same = omega (arith, a, b, h.1)
  between_differ e next k l (inl h) a b same =
      let there = above_from e k h.0 a (omega (arith, b, h.1)) l in
      let r = inner_parent e k (parent_of entries k) (greatest_shown n (is_above entries k)) l
      there in
      by_parent (parent_of entries e) refl r
    where
      by_parent : (found : Option ℕ) → parent_of entries e ≡ found
          → (parent_of entries k ≡ None → ⊥) × ((x : ℕ) → parent_of entries k ≡ Some x → e ≤ x) → ⊥
      by_parent None p r = r.0 (same ∙ p)
      by_parent (Some x) p r =
          let from = r.1 x (same ∙ p) in
          let before : x < e = subst (λ o. IfSome o (λ d. d < e)) p (parent_before entries up e) in
          omega (arith, from, before)

  -- ---- as a job holds them

  abbrev held : ℕ → ℕ → Bool
  held job e = entry_home entries e == job

  held_not : (job k : ℕ) → (parent_of entries k ≡ job_directory entries job → ⊥)
      → held job k ≡ false
  held_not job k never =
      false_from_ne_true (held job k)
      (λ h. never (sym (home_shown entries k)
      ∙ ap (job_directory entries) (eqb-true (entry_home entries k) job h)))

  held_is : (job k : ℕ) → job ≤ length (directories_in entries)
      → parent_of entries k ≡ job_directory entries job → held job k ≡ true
  held_is job k known p =
      eq-eqb (entry_home entries k) job (ap (job_for entries) p ∙ job_back entries job known)

  end_held : (found : Option ℕ) (k : ℕ) → end_under entries found ≤ k → k < n
      → parent_of entries k ≡ found → ⊥
  end_held None k l m p = omega (arith, l, m)
  end_held (Some d) k l m p =
      let known = parent_known entries k d p in
      let g = subst (IsGreatest n (is_above entries k)) p (greatest_shown n (is_above entries k)) in
      let a = above_end d k known.0 m g.1 in
      omega (arith, a, l)

  -- ---- where those of a job begin

  abbrev first_held : Option ℕ → ℕ
  first_held None = 0
  first_held (Some d) = d + 1

  abbrev IsIn : Option ℕ → Type 0
  IsIn None = Unit {0}
  IsIn (Some d) = (d < n) × (is_directory entries d ≡ true)

  none_first : (found : Option ℕ) → IfSome found (λ d. d < 0) → found ≡ None
  none_first None h = refl
  none_first (Some d) h = absurd (omega (arith, h))

  first_parent : (found : Option ℕ) → IsIn found → first_held found < end_under entries found
      → parent_of entries (first_held found) ≡ found
  first_parent None h l = none_first (parent_of entries 0) (parent_before entries up 0)
  first_parent (Some d) h l =
      let t = extent_shown entries up d h.0 in
      let w : d + 1 < n = omega (arith, l, t.within) in
      greatest_is n (is_above entries (d + 1)) d h.0 (above_from d (d + 1) h.1 (omega arith) l h.0)
      (λ x a b. false_from_ne_true (is_above entries (d + 1) x)
      (λ k. let c = above_before entries up x (d + 1) b k in omega (arith, a, c)))

  before_first : (found : Option ℕ) (k : ℕ) → k < first_held found → parent_of entries k ≡ found → ⊥
  before_first None k l p = omega (arith, l)
  before_first (Some d) k l p =
      let c : d < k = subst (λ o. IfSome o (λ d. d < k)) p (parent_before entries up k) in
      omega (arith, c, l)

  first_within : (found : Option ℕ) → IsIn found → first_held found ≤ n
  first_within None h = omega arith
  first_within (Some d) h = omega (arith, h.0)

  in_by : (job : ℕ) (found : Option ℕ) → job_directory entries job ≡ found → IsIn found
  in_by job None h = tt
  in_by zero (Some d) h = cc
  in_by (suc i) (Some d) h = let r = shown_at entries i d h in (r.known, r.is_one)

  left_by : (job : ℕ) (found : Option ℕ) → job_directory entries job ≡ found
      → children_from entries job (first_held found) ≡ entries_of_job entries job
  left_by job found h =
      sym (over (held job) n 0 (first_held found) (omega arith)
      (first_within found (in_by job found h))
      (λ k a b. held_not job k (λ p. before_first found k b (p ∙ h))))

  placed_by : (job end : ℕ) (found : Option ℕ) → job ≤ length (directories_in entries)
      → job_directory entries job ≡ found → end ≡ end_under entries found
      → IsPlaced entries job (first_held found) end
  placed_by job end found known h e = record {
    known = known;
    end_is = e ∙ ap (end_under entries) (sym h);
    own = λ l. first_parent found (in_by job found h) (omega (arith, l, e)) ∙ sym h;
  }

  pub some_left : (job d : ℕ) → job_directory entries job ≡ Some d
      → children_from entries job (d + 1) ≡ entries_of_job entries job
  some_left job d h = left_by job (Some d) h

  pub some_placed : (job d end : ℕ) → job ≤ length (directories_in entries)
      → job_directory entries job ≡ Some d → end ≡ extent_of entries d
      → IsPlaced entries job (d + 1) end
  some_placed job d end = placed_by job end (Some d)

  pub none_placed : (job end : ℕ) → job ≤ length (directories_in entries)
      → job_directory entries job ≡ None → end ≡ length entries → IsPlaced entries job 0 end
  none_placed job end = placed_by job end None

  end_there : (job : ℕ) → end_under entries (job_directory entries job) ≤ n
  end_there job = by_found (job_directory entries job) (in_by job (job_directory entries job) refl)
    where
      by_found : (found : Option ℕ) → IsIn found → end_under entries found ≤ n
      by_found None h = omega arith
      by_found (Some d) h = (extent_shown entries up d h.0).within

  module _ (job next end : ℕ) (placed : IsPlaced entries job next end) where
    abbrev directory : Option ℕ
    directory = job_directory entries job

    end_within : end ≤ n
    end_within = omega (arith, placed.end_is, end_there job)

    -- the entry here, and those left behind the next one
    left_more : (after : ℕ) → next < end → end ≤ n → IsNext entries next after
        → children_from entries job next ≡ next ∷ children_from entries job after
    left_more after l m h =
        let w : next < n = omega (arith, l, m) in
        some_here (held job) n next w (held_is job next placed.known (placed.own l))
        ∙ ap (λ xs. next ∷ xs)
        (over (held job) n (next + 1) after (omega (arith, next_behind next after w h))
        (next_within next after w h)
        (λ k a b. held_not job k
        (λ p. between_differ next after k w h (omega (arith, a)) b (p ∙ sym (placed.own l)))))

    -- none is left at the end
    left_none : end ≤ next → children_from entries job next ≡ []
    left_none l = elim (cases_lt n next) [
      | inl past ↦ ap (filter (held job))
          (drop_all next (all_numbers n) (omega (arith, past, count_numbers n)))
      | inr upto ↦ ended (held job) n next upto
          (λ k a b. held_not job k (λ p. end_held directory k (omega (arith, placed.end_is, l, a)) b
          p))
    ]

    placed_next : (after : ℕ) → next < end → end ≤ n → IsNext entries next after
        → IsPlaced entries job after end
    placed_next after l m h = record {
      known = placed.known;
      end_is = placed.end_is;
      own = λ k. next_parent next after directory (omega (arith, l, m)) h (placed.own l)
          (omega (arith, k, placed.end_is));
    }

    is_next : (e after : ℕ) → next ≡ e → after ≡ cond (is_directory entries e) (extent_of entries e)
        (e + 1) → IsNext entries next after
    is_next e after same h = subst (λ k. IsNext entries k after) (sym same)
        (next_from entries e after h)

    pub here_known : (e : ℕ) → cond (nat_lt next end) (Some next) None ≡ Some e → e < n
    here_known e h = let t = before_some next end e h in omega (arith, t.0, t.1, end_within)

    pub here_more : (e after : ℕ) → cond (nat_lt next end) (Some next) None ≡ Some e
        → after ≡ cond (is_directory entries e) (extent_of entries e) (e + 1)
        → children_from entries job next ≡ e ∷ children_from entries job after
    here_more e after h k =
        let t = before_some next end e h in
        left_more after t.0 end_within (is_next e after t.1 k)
        ∙ ap (λ x. x ∷ children_from entries job after) t.1

    pub here_placed : (e after : ℕ) → cond (nat_lt next end) (Some next) None ≡ Some e
        → after ≡ cond (is_directory entries e) (extent_of entries e) (e + 1)
        → IsPlaced entries job after end
    here_placed e after h k = let t = before_some next end e h in
        placed_next after t.0 end_within (is_next e after t.1 k)

    pub here_none : cond (nat_lt next end) (Some next) None ≡ None → children_from entries job next
        ≡ []
    here_none h = left_none (before_none next end h)
