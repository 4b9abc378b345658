-- Records and their numbers.
use Rattle.std.proofs.Common.{◌≡◌, ◌∙◌, ap, sym, refl, subst, ℕ, suc, ◌+◌, ◌<◌, ◌≤◌, List, [], ◌∷◌}
use Rattle.std.proofs.Common.{◌++◌, length, arith, inl, inr, ◌⊎◌}
use Rattle.find_records.specs.Record.{Record}
use Rattle.tree_model.specs.Numbered.{Numbered, numbered_from}
use Rattle.tree_model.proofs.Members.{Has}

pub numbered_push : (n m : ℕ) (xs : List Record) (x : Record) → m ≡ n + length xs
    → numbered_from n (xs ++ x ∷ []) ≡ numbered_from n xs ++ record { number = m; item = x } ∷ []
numbered_push n m [] x h = let e : n ≡ m = omega (arith, h) in
    ap (λ k. record { number = k; item = x } ∷ []) e
numbered_push n m (y ∷ xs) x h = ap (λ rest. record { number = n; item = y } ∷ rest)
    (numbered_push (n + 1) m xs x (omega (arith, h)))

pub in_low : (n : ℕ) (rs : List Record) (a : Numbered) → Has (numbered_from n rs) a → n ≤ a.number
in_low n [] a h = absurd h
in_low n (r ∷ rs) a h =
    elim h [
      | inl q ↦ subst (λ z. n ≤ z.number) q (omega arith)
      | inr t ↦
          (let l = in_low (n + 1) rs a t in omega (arith, l))
    ]

pub in_high : (n : ℕ) (rs : List Record) (a : Numbered) → Has (numbered_from n rs) a
    → a.number < n + length rs
in_high n [] a h = absurd h
in_high n (r ∷ rs) a h =
    elim h [
      | inl q ↦ subst (λ z. z.number < n + length (r ∷ rs)) q (omega arith)
      | inr t ↦
          (let l = in_high (n + 1) rs a t in omega (arith, l))
    ]

pub in_item : (n : ℕ) (rs : List Record) (a : Numbered) → Has (numbered_from n rs) a → Has rs a.item
in_item n [] a h = absurd h
in_item n (r ∷ rs) a h =
    elim h [ inl q ↦ inl (ap (λ z. z.item) q) | inr t ↦ inr (in_item (n + 1) rs a t) ]

pub item_in : (n : ℕ) (rs : List Record) (r : Record) → Has rs r → (a : Numbered)
    × Has (numbered_from n rs) a × (a.item ≡ r)
item_in n [] r h = absurd h
item_in n (x ∷ rs) r h =
    elim h [
      | inl q ↦ (record { number = n; item = x }, inl refl, q)
      | inr t ↦
          (let p = item_in (n + 1) rs r t in (p.0, inr p.1, p.2))
    ]

-- numbers differ
pub one_each : (n : ℕ) (rs : List Record) (a b : Numbered) → Has (numbered_from n rs) a
    → Has (numbered_from n rs) b → a.number ≡ b.number → a ≡ b
one_each n [] a b ha hb e = absurd ha
one_each n (r ∷ rs) a b ha hb e = elim ha [
  | inl p ↦ elim hb [
    | inl q ↦ sym p ∙ q
    | inr t ↦ (let l = in_low (n + 1) rs b t in
        let m : n ≡ a.number = ap (λ z. z.number) p in absurd (omega (arith, l, m)))
  ]
  | inr s ↦ elim hb [
    | inl q ↦ (let l = in_low (n + 1) rs a s in let m : n ≡ b.number = ap (λ z. z.number) q in
        absurd (omega (arith, l, m)))
    | inr t ↦ one_each (n + 1) rs a b s t e
  ]
]

-- the records in front keep their numbers, and those behind have greater ones
pub in_front_or_behind : (n : ℕ) (xs ys : List Record) (a : Numbered)
    → Has (numbered_from n (xs ++ ys)) a → Has (numbered_from n xs) a ⊎ (n + length xs ≤ a.number)
in_front_or_behind n [] ys a h = inr (let l = in_low n ys a h in omega (arith, l))
in_front_or_behind n (x ∷ xs) ys a h = elim h [
  | inl q ↦ inl (inl q)
  | inr t ↦ elim (in_front_or_behind (n + 1) xs ys a t)
      [ inl s ↦ inl (inr s) | inr l ↦ inr (omega arith) ]
]

pub left : (n : ℕ) (xs ys : List Record) (a : Numbered) → Has (numbered_from n xs) a
    → Has (numbered_from n (xs ++ ys)) a
left n [] ys a h = absurd h
left n (x ∷ xs) ys a h = elim h [ inl q ↦ inl q | inr t ↦ inr (left (n + 1) xs ys a t) ]

pub middle : (n : ℕ) (xs : List Record) (r : Record) (ys : List Record) (m : ℕ) → m ≡ n + length xs
    → Has (numbered_from n (xs ++ r ∷ ys)) (record { number = m; item = r })
middle n [] r ys m e = let f : n ≡ m = omega (arith, e) in
    inl (ap (λ k. record { number = k; item = r }) f)
middle n (x ∷ xs) r ys m e = inr (middle (n + 1) xs r ys m (omega (arith, e)))

pub length_numbered : (n : ℕ) (rs : List Record) → length (numbered_from n rs) ≡ length rs
length_numbered n [] = refl
length_numbered n (r ∷ rs) = ap suc (length_numbered (n + 1) rs)

-- one record more, with the next number
pub numbered_more : (n m : ℕ) (xs : List Record) (x : Record) (all new : List Numbered)
    → new ≡ all ++ record { number = m; item = x } ∷ [] → all ≡ numbered_from n xs
    → m ≡ n + length xs → new ≡ numbered_from n (xs ++ x ∷ [])
numbered_more n m xs x all new p q e = p ∙ ap (λ l. l ++ record { number = m; item = x } ∷ []) q
    ∙ sym (numbered_push n m xs x e)
