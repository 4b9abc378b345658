-- The numbers of doubled records are the verdict on the numbered records.
use Rattle.std.proofs.Common.{◌≡◌, ◌∙◌, ap, sym, refl, subst, ℕ, ◌+◌, ◌≤◌, Bool, true, false, cond}
use Rattle.std.proofs.Common.{List, [], ◌∷◌, ◌++◌, length, arith, append_assoc, append-nil, inl}
use Rattle.std.proofs.Common.{inr}
use Rattle.std.specs.Prelude.{Some, None}
use Rattle.std.specs.List.{list_any}
use Rattle.std.proofs.lemmas.Bool.{true≢false, false_from_ne_true}
use Rattle.tree_model.proofs.HeadLemmas.{by_place}
use Rattle.file_paths.specs.Path.{Path}
use Rattle.find_records.specs.Record.{Record}
use Rattle.tree_model.specs.Numbered.{Numbered, numbered_from}
use Rattle.tree_model.specs.Entries.{contradicts, same_path, first_from, doubled_after, doubled}
use Rattle.tree_model.proofs.Members.{Has, has_push, any_has, none_has}
use Rattle.tree_model.proofs.SameLemmas.{conflict_path, conflict_back, conflict_itself, conflict_at}
use Rattle.tree_model.proofs.SameLemmas.{path_exact, path_same, peace_same}
use Rattle.tree_model.proofs.Verdicts.{Verdict, IsDoubled}
use Rattle.tree_model.proofs.NumberedLemmas.{in_low, in_high, in_item, item_in, in_front_or_behind}
use Rattle.tree_model.proofs.NumberedLemmas.{left, middle}

-- no two contradict each other
abbrev pub Calm : List Record → Type 0
Calm records = (a b : Record) → Has records a → Has records b → contradicts a b ≡ false

-- the first record with a path
pub record First (n : ℕ) (path : Path) (records : List Record) (h : Numbered) : Type 0 where
  pub inside : Has (numbered_from n records) h
  pub number_is : h.number ≡ first_from n path records
  pub path_is : h.item.path ≡ path
  pub lowest : (a : Numbered) → Has (numbered_from n records) a → a.item.path ≡ path
      → h.number ≤ a.number

first_more : (n : ℕ) (path : Path) (r : Record) (rs : List Record) (h : Numbered)
    → same_path r.path path ≡ false → First (n + 1) path rs h → First n path (r ∷ rs) h
first_more n path r rs h v f = record {
  inside = inr f.inside;
  number_is = f.number_is ∙ sym (ap (λ b. cond b n (first_from (n + 1) path rs)) v);
  path_is = f.path_is;
  lowest = λ a ha e. elim ha [
    | inl q ↦ absurd (true≢false (sym (path_same r.path path (ap (λ z. z.item.path) q ∙ e)) ∙ v))
    | inr t ↦ f.lowest a t e
  ];
}

first_here : (n : ℕ) (path : Path) (r : Record) (rs : List Record) → same_path r.path path ≡ true
    → First n path (r ∷ rs) (record { number = n; item = r })
first_here n path r rs v = record {
  inside = inl refl;
  number_is = sym (ap (λ b. cond b n (first_from (n + 1) path rs)) v);
  path_is = path_exact r.path path v;
  lowest = λ a ha e. in_low n (r ∷ rs) a ha;
}

by_first : (v : Bool) (n : ℕ) (path : Path) (r : Record) (rs : List Record) → same_path r.path path
    ≡ v → (y : Record) → Has (r ∷ rs) y → y.path ≡ path
    → ((y : Record) → Has rs y → y.path ≡ path → (h : Numbered) × First (n + 1) path rs h)
    → (h : Numbered) × First n path (r ∷ rs) h
by_first true n path r rs v y hy e f = (record { number = n; item = r }, first_here n path r rs v)
by_first false n path r rs v y hy e f = elim hy [
  | inl q ↦ absurd (true≢false (sym (path_same r.path path (ap (λ z. z.path) q ∙ e)) ∙ v))
  | inr t ↦ (let p = f y t e in (p.0, first_more n path r rs p.0 v p.1))
]

first_is : (n : ℕ) (path : Path) (rs : List Record) (y : Record) → Has rs y → y.path ≡ path
    → (h : Numbered) × First n path rs h
first_is n path [] y hy e = absurd hy
first_is n path (r ∷ rs) y hy e = by_first (same_path r.path path) n path r rs refl y hy e
    (λ z hz f. first_is (n + 1) path rs z hz f)

by_back : (a b : Record) → contradicts b a ≡ false → contradicts a b ≡ false
by_back a b h =
    false_from_ne_true (contradicts a b) (λ t. true≢false (sym (conflict_back a b t) ∙ h))

module _ (earlier : List Record) (r : Record) (rs : List Record) (calm : Calm earlier) where
  -- a record that contradicts an earlier one
  second_here : (y : Record) → Has earlier y → contradicts r y ≡ true
      → IsDoubled (numbered_from 1 (earlier ++ r ∷ rs)) (first_from 1 r.path earlier)
      (length earlier + 1)
  second_here y hy k =
      let py : y.path ≡ r.path = sym (conflict_path r y k) in
      let p = first_is 1 r.path earlier y hy py in
      let f = p.1 in
      let high = in_high 1 earlier p.0 f.inside in
      let same : p.0.item ≡ y =
      peace_same p.0.item y (f.path_is ∙ sym py)
      (calm p.0.item y (in_item 1 earlier p.0 f.inside) hy) in
      record {
        head = p.0;
        other = record { number = length earlier + 1; item = r };
        has_head = left 1 earlier (r ∷ rs) p.0 f.inside;
        has_other = middle 1 earlier r rs (length earlier + 1) (omega arith);
        head_is = f.number_is;
        other_is = refl;
        upto = omega (arith, high, f.number_is);
        clashes = conflict_back r p.0.item (conflict_at r p.0.item r y refl same ∙ k);
        least = λ a b n ha hb c an bn. elim (in_front_or_behind 1 earlier (r ∷ rs) a ha) [
          | inl ta ↦ elim (in_front_or_behind 1 earlier (r ∷ rs) b hb) [
            | inl tb ↦ absurd
                (true≢false (sym c ∙ calm a.item b.item (in_item 1 earlier a ta)
                (in_item 1 earlier b tb)))
            | inr l ↦ omega arith
          ]
          | inr l ↦ omega arith
        ];
        lowest = λ a ha e. elim (in_front_or_behind 1 earlier (r ∷ rs) a ha) [
          | inl ta ↦ (let l = f.lowest a ta e in omega (arith, l, f.number_is))
          | inr l ↦ omega (arith, high, f.number_is)
        ];
      }

  calm_more : list_any (contradicts r) earlier ≡ false → Calm (earlier ++ r ∷ [])
  calm_more n = λ a b ha hb. elim (has_push earlier r a ha) [
    | inl ta ↦ elim (has_push earlier r b hb) [
      | inl tb ↦ calm a b ta tb
      | inr q ↦ by_back a b (conflict_at b a r a (sym q) refl
          ∙ none_has (contradicts r) earlier a n ta)
    ]
    | inr p ↦ elim (has_push earlier r b hb) [
      | inl tb ↦ conflict_at a b r b (sym p) refl ∙ none_has (contradicts r) earlier b n tb
      | inr q ↦ conflict_at a b r r (sym p) (sym q) ∙ conflict_itself r
    ]
  ]

calm_verdict : (earlier : List Record) → Calm earlier → Verdict (numbered_from 1 (earlier ++ []))
    None
calm_verdict earlier calm = λ a b ha hb.
    calm a.item b.item
    (subst (λ l. Has l a.item) (append-nil earlier) (in_item 1 (earlier ++ []) a ha))
    (subst (λ l. Has l b.item) (append-nil earlier) (in_item 1 (earlier ++ []) b hb))

doubled_after_right : (rest earlier : List Record) → Calm earlier
    → Verdict (numbered_from 1 (earlier ++ rest)) (doubled_after earlier rest)
doubled_after_right [] earlier calm = calm_verdict earlier calm
doubled_after_right (r ∷ rs) earlier calm =
    by_place (list_any (contradicts r) earlier) (numbered_from 1 (earlier ++ r ∷ rs))
    (Some (first_from 1 r.path earlier, length earlier + 1))
    (doubled_after (earlier ++ r ∷ []) rs)
    (λ t. let y = any_has (contradicts r) earlier t in second_here earlier r rs calm y.0 y.1 y.2)
    (λ f. subst (λ l. Verdict (numbered_from 1 l) (doubled_after (earlier ++ r ∷ []) rs))
    (append_assoc earlier (r ∷ []) rs)
    (doubled_after_right rs (earlier ++ r ∷ []) (calm_more earlier r rs calm f)))

pub doubled_right : (records : List Record) → Verdict (numbered_from 1 records) (doubled records)
unfolding doubled
doubled_right records = doubled_after_right records [] (λ a b ha hb. absurd ha)

-- records that are not doubled contradict none
pub calm_from : (records : List Record) → doubled records ≡ None → Calm records
calm_from records e = λ a b ha hb.
    let p = item_in 1 records a ha in
    let q = item_in 1 records b hb in
    let v = subst (Verdict (numbered_from 1 records)) e (doubled_right records) in
    sym (conflict_at p.0.item q.0.item a b p.2 q.2) ∙ v p.0 q.0 p.1 q.1
