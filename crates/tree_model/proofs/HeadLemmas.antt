-- One pass over records in order finds the doubled ones.
use Rattle.std.proofs.Common.{◌≡◌, ◌∙◌, ap, sym, refl, subst, ℕ, ◌≤◌, Bool, true, false, cond, List}
use Rattle.std.proofs.Common.{[], ◌∷◌, arith, ◌⊎◌, inl, inr}
use borrow.Author.Tests.{leb-true, leb-false}
use Rattle.std.specs.Prelude.{Option, Some, None, nat_le}
use Rattle.std.specs.Cmp.{IsTotalOrder}
use Rattle.std.specs.Ordering.{is_eq, is_lt, is_gt, nat_cmp, ordering_then, ordering_reverse}
use Rattle.std.specs.declared.cmp.Ordering.{Ordering}
use Rattle.std.specs.declared.cmp.Ordering.TheVariants.{Less, Equal, Greater}
use Rattle.std.specs.Cmp.Lexicographic.{lists_total, nat_list_cmp_total}
use Rattle.std.proofs.lemmas.Bool.{true≢false}
use Rattle.std.proofs.lemmas.Cmp.{upto, tied_itself}
use Rattle.std.proofs.lemmas.Map.Keys.{ge_from_not_lt}
use Rattle.file_paths.specs.Path.{Path, path_cmp}
use Rattle.tree_model.specs.Numbered.{Numbered, numbered_cmp}
use Rattle.tree_model.specs.Entries.{contradicts, same_record}
use Rattle.tree_model.specs.Doubled.{same_place, doubled_with, lesser, doubled_behind, doubled_in}
use Rattle.tree_model.proofs.Members.{Has}
use Rattle.tree_model.proofs.SameLemmas.{conflict_apart, conflict_at, conflict_from}
use Rattle.tree_model.proofs.SameLemmas.{conflict_itself, path_exact, record_exact, same_path_is}
use Rattle.tree_model.proofs.Verdicts.{Verdict, IsDoubled, Covers, verdict_moves}

pub path_total : IsTotalOrder path_cmp
path_total = lists_total nat_list_cmp_total

-- what the head of a run and the numbers so far are, behind some records
pub record Seen (D : List Numbered) (head : Numbered) (best : Option (ℕ × ℕ)) : Type 0 where
  pub inside : Has D head
  pub lowest : (a : Numbered) → Has D a → a.item.path ≡ head.item.path → head.number ≤ a.number
  pub below : (a : Numbered) → Has D a → is_gt (path_cmp a.item.path head.item.path) ≡ false
  pub verdict : Verdict D best

not_above : (p q : Path) → p ≡ q → is_gt (path_cmp p q) ≡ false
not_above p q e = let t : path_cmp p q ≡ Equal =
    subst (λ z. path_cmp p z ≡ Equal) e (tied_itself path_total p) in ap is_gt t

-- a record that is the head again
seen_again : (D : List Numbered) (head x : Numbered) (best : Option (ℕ × ℕ)) → Seen D head best
    → head.item ≡ x.item → head.number ≤ x.number → Seen (x ∷ D) head best
seen_again D head x best s e le = record {
  inside = inr s.inside;
  lowest = λ a h p. elim h [
    | inl q ↦ subst (λ z. head.number ≤ z.number) q le
    | inr t ↦ s.lowest a t
        p
  ];
  below = λ a h. elim h [
    | inl q ↦ not_above a.item.path head.item.path (sym (ap (λ z. z.item.path) q)
        ∙ sym (ap (λ r. r.path) e))
    | inr t ↦ s.below a t
  ];
  verdict = verdict_moves D (x ∷ D) best (record {
    keeps = λ a h. inr h;
    like = λ a h. elim h [
      | inl q ↦ (head, s.inside, e ∙ ap (λ z. z.item) q, subst (λ z. head.number ≤ z.number) q le)
      | inr t ↦ (a, t, refl, omega arith)
    ];
  }) s.verdict;
}

module _ (D : List Numbered) (head x : Numbered) (inside : Has D head)
    (lowest : (a : Numbered) → Has D a → a.item.path ≡ head.item.path → head.number ≤ a.number)
    (p : head.item.path ≡ x.item.path) (k : contradicts head.item x.item ≡ true)
    (le : head.number ≤ x.number) where
  -- the head and a record that differs, where none before contradicts one below its number
  fresh : ((a b : Numbered) (n : ℕ) → Has D a → Has D b → contradicts a.item b.item ≡ true
      → a.number ≤ n → b.number ≤ n → x.number ≤ n) → IsDoubled (x ∷ D) head.number x.number
  fresh rest = record {
    head = head;
    other = x;
    has_head = inr inside;
    has_other = inl refl;
    head_is = refl;
    other_is = refl;
    upto = le;
    clashes = k;
    least = λ a b n ha hb c an bn. elim ha [
      | inl q ↦ subst (λ z. z.number ≤ n) (sym q) an
      | inr ta ↦ elim hb [
        | inl q ↦ subst (λ z. z.number ≤ n) (sym q) bn
        | inr tb ↦ rest a b n ta tb
            c an bn
      ]
    ];
    lowest = λ a ha e. elim ha [
      | inl q ↦ subst (λ z. head.number ≤ z.number) q le
      | inr t ↦ lowest a
          t (e ∙ sym p)
    ];
  }

  -- an earlier find stays
  stale : (f s : ℕ) → IsDoubled D f s → s ≤ x.number → IsDoubled (x ∷ D) f s
  stale f s h l = record {
    head = h.head;
    other = h.other;
    has_head = inr h.has_head;
    has_other = inr h.has_other;
    head_is = h.head_is;
    other_is = h.other_is;
    upto = h.upto;
    clashes = h.clashes;
    least = λ a b n ha hb c an bn. elim ha [
      | inl q ↦ (let m : x.number ≤ n = subst (λ z. z.number ≤ n) (sym q) an in omega arith)
      | inr ta ↦ elim hb [
        | inl q ↦ (let m : x.number ≤ n = subst (λ z. z.number ≤ n) (sym q) bn in
            omega arith)
        | inr tb ↦ h.least a b n ta tb c an bn
      ]
    ];
    lowest = λ a ha e. elim ha [
      | inl q ↦ (let m = h.lowest head inside (p ∙ ap (λ z. z.item.path) q ∙ e) in
          let o : head.number ≤ a.number = subst (λ z. head.number ≤ z.number) q le in
          omega (arith, m))
      | inr t ↦ h.lowest a t e
    ];
  }

  by_number : (v : Bool) (l : ℕ × ℕ) → nat_le l.1 x.number ≡ v → IsDoubled D l.0 l.1
      → Verdict (x ∷ D) (cond v (Some l) (Some (head.number, x.number)))
  by_number true l e h = stale l.0 l.1 h (leb-true l.1 x.number e)
  by_number false l e h = fresh (λ a b n ta tb c an bn. let m = h.least a b n ta tb c an bn in
      let o = leb-false l.1 x.number e in omega (arith, m, o))

  verdict_lesser : (best : Option (ℕ × ℕ)) → Verdict D best
      → Verdict (x ∷ D) (lesser best head.number x.number)
  verdict_lesser None h = fresh (λ a b n ta tb c an bn. absurd (true≢false (sym c ∙ h a b ta tb)))
  verdict_lesser (Some l) h = by_number (nat_le l.1 x.number) l refl h

-- a record of the head's path that differs
seen_conflict : (D : List Numbered) (head x : Numbered) (best : Option (ℕ × ℕ)) → Seen D head best
    → head.item.path ≡ x.item.path → contradicts head.item x.item ≡ true → head.number ≤ x.number
    → Seen (x ∷ D) head (lesser best head.number x.number)
seen_conflict D head x best s p k le = record {
  inside = inr s.inside;
  lowest = λ a h e. elim h [
    | inl q ↦ subst (λ z. head.number ≤ z.number) q le
    | inr t ↦ s.lowest a t
        e
  ];
  below = λ a h. elim h [
    | inl q ↦ not_above a.item.path head.item.path (sym (ap (λ z. z.item.path) q) ∙ sym p)
    | inr t
        ↦ s.below a t
  ];
  verdict = verdict_lesser D head x s.inside s.lowest p k le best s.verdict;
}

by_record : (D : List Numbered) (head x : Numbered) (best : Option (ℕ × ℕ)) (v : Bool)
    → same_record head.item x.item ≡ v → Seen D head best → head.item.path ≡ x.item.path
    → head.number ≤ x.number → Seen (x ∷ D) head (cond v best (lesser best head.number x.number))
by_record D head x best true e s p le = seen_again D head x best s (record_exact head.item x.item e)
    le
by_record D head x best false e s p le =
    seen_conflict D head x best s p (conflict_from head.item x.item p e) le

tie : (r s : Ordering) → r ≡ ordering_reverse s → is_gt r ≡ false → is_gt s ≡ false → r ≡ Equal
tie Less Less e g h = cc
tie Less Equal e g h = cc
tie Less Greater e g h = cc
tie Equal s e g h = refl
tie Greater s e g h = cc

module _ (D : List Numbered) (head x : Numbered) (below : (a : Numbered) → Has D a
    → is_gt (path_cmp a.item.path head.item.path) ≡ false) (n : same_place head x ≡ false)
    (up : is_gt (path_cmp head.item.path x.item.path) ≡ false) where
  -- no record before has the path
  other_path : (a : Numbered) → Has D a → a.item.path ≡ x.item.path → ⊥
  other_path a h e =
      let g : is_gt (path_cmp x.item.path head.item.path) ≡ false =
      subst (λ z. is_gt (path_cmp z head.item.path) ≡ false) e (below a h) in
      let t = tie (path_cmp head.item.path x.item.path) (path_cmp x.item.path head.item.path)
      (path_total.antisymm head.item.path x.item.path) up g in
      true≢false (sym (same_path_is head.item.path x.item.path ∙ ap is_eq t) ∙ n)

  older : (a b : Numbered) → Has (x ∷ D) a → Has (x ∷ D) b → (contradicts a.item b.item ≡ false) ⊎
      (Has D a × Has D b)
  older a b ha hb = elim ha [
    | inl q ↦ elim hb [
      | inl r ↦ inl (conflict_at a.item b.item x.item x.item (sym (ap (λ z. z.item) q))
          (sym (ap (λ z. z.item) r)) ∙ conflict_itself x.item)
      | inr tb ↦ inl
          (conflict_apart a.item b.item
          (λ e. other_path b tb (sym e ∙ sym (ap (λ z. z.item.path) q))))
    ]
    | inr ta ↦ elim hb [
      | inl r ↦ inl
          (conflict_apart a.item b.item (λ e. other_path a ta (e ∙ sym (ap (λ z. z.item.path) r))))
      | inr tb ↦ inr (ta, tb)
    ]
  ]

  verdict_next : (best : Option (ℕ × ℕ)) → Verdict D best → Verdict (x ∷ D) best
  verdict_next None h = λ a b ha hb. elim (older a b ha hb) [ inl f ↦ f | inr t ↦ h a b t.0 t.1 ]
  verdict_next (Some p) h = record {
    head = h.head;
    other = h.other;
    has_head = inr h.has_head;
    has_other = inr h.has_other;
    head_is = h.head_is;
    other_is = h.other_is;
    upto = h.upto;
    clashes = h.clashes;
    least = λ a b n ha hb c an bn. elim (older a b ha hb)
        [ inl f ↦ absurd (true≢false (sym c ∙ f)) | inr t ↦ h.least a b n t.0 t.1 c an bn ];
    lowest = λ a ha e. elim ha [
      | inl q ↦ absurd (other_path h.other h.has_other (sym e ∙ sym (ap (λ z. z.item.path) q)))
      | inr t ↦ h.lowest a t e
    ];
  }

-- a record of another path is the next head
seen_next : (D : List Numbered) (head x : Numbered) (best : Option (ℕ × ℕ)) → Seen D head best
    → same_place head x ≡ false → is_gt (path_cmp head.item.path x.item.path) ≡ false
    → Seen (x ∷ D) x best
seen_next D head x best s n up = record {
  inside = inl refl;
  lowest = λ a h e. elim h [
    | inl q ↦ subst (λ z. x.number ≤ z.number) q (omega arith)
    | inr t ↦
        absurd (other_path D head x s.below n up a t e)
  ];
  below = λ a h. elim h [
    | inl q ↦ not_above a.item.path x.item.path (sym (ap (λ z. z.item.path) q))
    | inr t ↦ upto path_total a.item.path head.item.path x.item.path (s.below a t) up
  ];
  verdict = verdict_next D head x s.below n up best s.verdict;
}

pub then_first : (o p : Ordering) → is_lt (ordering_then o p) ≡ false → is_lt o ≡ false
then_first Less p h = h
then_first Equal p h = refl
then_first Greater p h = refl

then_second : (o p : Ordering) → o ≡ Equal → is_lt (ordering_then o p) ≡ false → is_lt p ≡ false
then_second o p e h = subst (λ z. is_lt (ordering_then z p) ≡ false) e h

turned : (o : Ordering) → is_gt (ordering_reverse o) ≡ is_lt o
turned Less = refl
turned Equal = refl
turned Greater = refl

-- a later record of the head's path has no lesser number
number_upto : (head x : Numbered) → is_lt (numbered_cmp x head) ≡ false
    → head.item.path ≡ x.item.path → head.number ≤ x.number
number_upto head x b p =
    let t : path_cmp x.item.path head.item.path ≡ Equal =
    subst (λ z. path_cmp x.item.path z ≡ Equal) (sym p) (tied_itself path_total x.item.path) in
    ge_from_not_lt x.number head.number
    (then_second (path_cmp x.item.path head.item.path) (nat_cmp x.number head.number) t b)

path_upto : (head x : Numbered) → is_lt (numbered_cmp x head) ≡ false
    → is_gt (path_cmp head.item.path x.item.path) ≡ false
path_upto head x b =
    ap is_gt (path_total.antisymm head.item.path x.item.path)
    ∙ turned (path_cmp x.item.path head.item.path)
    ∙ then_first (path_cmp x.item.path head.item.path) (nat_cmp x.number head.number) b

-- no record comes before one that stands before it
abbrev pub Ordered : List Numbered → Type 0
Ordered [] = Unit {0}
Ordered (x ∷ xs) = ((y : Numbered) → Has xs y → is_lt (numbered_cmp y x) ≡ false) × Ordered xs

-- the records behind, put before others, the last first
abbrev pub onto : List Numbered → List Numbered → List Numbered
onto [] D = D
onto (x ∷ xs) D = onto xs (x ∷ D)

pub by_place : (v : Bool) (all : List Numbered) (A B : Option (ℕ × ℕ)) → (v ≡ true → Verdict all A)
    → (v ≡ false → Verdict all B) → Verdict all (cond v A B)
by_place true all A B f g = f refl
by_place false all A B f g = g refl

pub passed_right : (xs D : List Numbered) (head : Numbered) (best : Option (ℕ × ℕ))
    → ((y : Numbered) → Has xs y → is_lt (numbered_cmp y head) ≡ false) → Ordered xs
    → Seen D head best → Verdict (onto xs D) (doubled_behind head best xs)
passed_right [] D head best b o s = s.verdict
passed_right (x ∷ xs) D head best b o s =
    by_place (same_place head x) (onto xs (x ∷ D))
    (doubled_behind head (doubled_with head x best) xs)
    (doubled_behind x best xs)
    (λ t. let p = path_exact head.item.path x.item.path t in
    passed_right xs (x ∷ D) head (doubled_with head x best) (λ y h. b y (inr h)) o.1
    (by_record D head x best (same_record head.item x.item) refl s p
    (number_upto head x (b x (inl refl)) p)))
    (λ f. passed_right xs (x ∷ D) x best o.0 o.1
    (seen_next D head x best s f (path_upto head x (b x (inl refl)))))

pub onto_has : (xs D : List Numbered) (a : Numbered) → Has (onto xs D) a → Has xs a ⊎ Has D a
onto_has [] D a h = inr h
onto_has (x ∷ xs) D a h =
    elim (onto_has xs (x ∷ D) a h)
    [ inl t ↦ inl (inr t) | inr d ↦ elim d [ inl q ↦ inl (inl q) | inr t ↦ inr t ] ]

has_onto : (xs D : List Numbered) (a : Numbered) → Has xs a ⊎ Has D a → Has (onto xs D) a
has_onto [] D a h = elim h [ inl t ↦ absurd t | inr d ↦ d ]
has_onto (x ∷ xs) D a h =
    has_onto xs (x ∷ D) a
    (elim h [ inl c ↦ elim c [ inl q ↦ inr (inl q) | inr t ↦ inl t ] | inr d ↦ inr (inr d) ])

seen_first : (x : Numbered) → Seen (x ∷ []) x None
seen_first x = record {
  inside = inl refl;
  lowest = λ a h e. elim h [
    | inl q ↦ subst (λ z. x.number ≤ z.number) q (omega arith)
    | inr t ↦
        absurd t
  ];
  below = λ a h. elim h [
    | inl q ↦ not_above a.item.path x.item.path (sym (ap (λ z. z.item.path) q))
    | inr t ↦ absurd t
  ];
  verdict = λ a b ha hb. elim ha [
    | inl q ↦ elim hb [
      | inl r ↦ conflict_at a.item b.item x.item x.item (sym (ap (λ z. z.item) q))
          (sym (ap (λ z. z.item) r)) ∙ conflict_itself x.item
      | inr t ↦ absurd t
    ]
    | inr t ↦ absurd t
  ];
}

swap_sides : (x : Numbered) (xs : List Numbered) (a : Numbered) → Has xs a ⊎ Has (x ∷ []) a
    → Has (x ∷ xs) a
swap_sides x xs a h = elim h [ inl t ↦ inr t | inr d ↦ elim d [ inl q ↦ inl q | inr t ↦ absurd t ] ]

swap_back : (x : Numbered) (xs : List Numbered) (a : Numbered) → Has (x ∷ xs) a
    → Has xs a ⊎ Has (x ∷ []) a
swap_back x xs a h = elim h [ inl q ↦ inr (inl q) | inr t ↦ inl t ]

pub same_elements : (some others : List Numbered) → ((a : Numbered) → Has some a → Has others a)
    → ((a : Numbered) → Has others a → Has some a) → Covers some others
same_elements some others f g = record { keeps = f; like = λ a h. (a, g a h, refl, omega arith) }

pub doubled_in_right : (S : List Numbered) → Ordered S → Verdict S (doubled_in S)
unfolding doubled_in
doubled_in_right [] o = λ a b ha hb. absurd ha
doubled_in_right (x ∷ xs) o =
    verdict_moves (onto xs (x ∷ [])) (x ∷ xs) (doubled_behind x None xs)
    (same_elements (onto xs (x ∷ [])) (x ∷ xs) (λ a h. swap_sides x xs a (onto_has xs (x ∷ []) a h))
    (λ a h. has_onto xs (x ∷ []) a (swap_back x xs a h)))
    (passed_right xs (x ∷ []) x None o.0 o.1 (seen_first x))
