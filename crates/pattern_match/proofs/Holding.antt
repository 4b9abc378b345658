-- The test of membership by every cut tells the language.
use Rattle.std.proofs.Common.{◌≡◌, refl, sym, ap, subst, ℕ, zero, suc, ◌+◌, ◌-◌, ◌<◌, ◌≤◌, ◌==◌}
use Rattle.std.proofs.Common.{Bool, true, false, List, [], ◌∷◌, ◌++◌, length, Option, Some, None}
use Rattle.std.proofs.Common.{◌⊎◌, inl, inr, arith, append_assoc, append-nil, length-append}
use Rattle.std.proofs.lemmas.Bool.{and_from, or_right, or_cases, or_left}
use Rattle.std.specs.Cmp.{first_so, second_so}
use Rattle.std.specs.Prelude.{◌||◌, ◌&&◌}
use Rattle.std.specs.List.{list_any}
use Rattle.pattern_syntax.specs.Tree.{Tree, Set, Nothing, Both, Either, Repeat}
use Rattle.pattern_syntax.specs.Language.{In, Joined, AtMost, holds, some_cut, is_joined}
use Rattle.pattern_syntax.specs.Language.{some_count, counts_from}

-- the text is cut in two that pass
abbrev pub Cuts : (List ℕ → Bool) → (List ℕ → Bool) → List ℕ → List ℕ → Type 0
Cuts p q front text = (a b : List ℕ) × (text ≡ a ++ b) × (p (front ++ a) ≡ true) × (q b ≡ true)

cut_onto : (p q : List ℕ → Bool) (front text : List ℕ) → some_cut p q front text ≡ true
    → Cuts p q front text
cut_onto p q front [] h = (
  [],
  [],
  refl,
  (let n : front ++ [] ≡ front = append-nil front in
      rw n (first_so (p front) _ h)),
  second_so (p front) _ h,
)
cut_onto p q front (b ∷ bs) h =
    at (or_cases (p front && q (b ∷ bs)) _ h) (cut_onto p q (front ++ b ∷ []) bs)
  where
    at : ((p front && q (b ∷ bs)) ≡ true) ⊎ (some_cut p q (front ++ b ∷ []) bs ≡ true)
        → (some_cut p q (front ++ b ∷ []) bs ≡ true → Cuts p q (front ++ b ∷ []) bs)
        → Cuts p q front (b ∷ bs)
    at (inl g) ih = (
      [],
      b ∷ bs,
      refl,
      (let n : front ++ [] ≡ front = append-nil front in
          rw n (first_so (p front) _ g)),
      second_so (p front) _ g,
    )
    at (inr g) ih = let r = ih g in (
      b ∷ r.0,
      r.1,
      ap (λ w. b ∷ w) r.2,
      (let n : (front ++ b ∷ []) ++ r.0 ≡ front ++ (b ∷ r.0) = append_assoc front (b ∷ []) r.0 in
          subst (λ w. p w ≡ true) n r.3),
      r.4,
    )

cut_from : (p q : List ℕ → Bool) (front a b : List ℕ) → p (front ++ a) ≡ true → q b ≡ true
    → some_cut p q front (a ++ b) ≡ true
cut_from p q front [] [] h k = and_from _ _ (let n : front ++ [] ≡ front = append-nil front in
    subst (λ w. p w ≡ true) n h) k
cut_from p q front [] (c ∷ cs) h k =
    or_left _ _ (and_from _ _ (let n : front ++ [] ≡ front = append-nil front in
    subst (λ w. p w ≡ true) n h) k)
cut_from p q front (c ∷ cs) b h k =
    or_right (p front && q (c ∷ (cs ++ b))) _
    (cut_from p q (front ++ c ∷ []) cs b
    (let n : (front ++ c ∷ []) ++ cs ≡ front ++ (c ∷ cs) = append_assoc front (c ∷ []) cs in
    subst (λ w. p w ≡ true) (sym n) h) k)

-- a test that tells a language
abbrev pub Shows : (List ℕ → Bool) → (List ℕ → Type 0) → Type 0
Shows p P = (text : List ℕ) → (p text ≡ true → P text) × (P text → p text ≡ true)

joined_shows : (p : List ℕ → Bool) (P : List ℕ → Type 0) → Shows p P → (k : ℕ)
    → Shows (λ text. is_joined p k text) (Joined P k)
joined_shows p P h zero [] = (λ _. refl, λ _. refl)
joined_shows p P h zero (b ∷ bs) = (λ e. cc, λ e. cc)
joined_shows p P h (suc k) text = (
  λ e. let c = cut_onto p (is_joined p k) [] text e in
      (c.0, c.1, c.2, (h c.0).0 c.3, (joined_shows p P h k c.1).0 c.4),
  λ j. subst (λ w. some_cut p (is_joined p k) [] w ≡ true) (sym j.2)
      (cut_from p (is_joined p k) [] j.0 j.1 ((h j.0).1 j.3) ((joined_shows p P h k j.1).1 j.4)),
)

count_onto : (p : ℕ → Bool) (least more : ℕ) → some_count p least more ≡ true → (k : ℕ)
    × (least ≤ k) × (k < least + more) × (p k ≡ true)
count_onto p least zero h = cc
count_onto p least (suc more) h = at (or_cases (p least) _ h) (count_onto p (least + 1) more)
  where
    at : (p least ≡ true) ⊎ (some_count p (least + 1) more ≡ true)
        → (some_count p (least + 1) more ≡ true → (k : ℕ) × (least + 1 ≤ k)
        × (k < (least + 1) + more) × (p k ≡ true)) → (k : ℕ) × (least ≤ k) × (k < least + suc more)
        × (p k ≡ true)
    at (inl g) ih = (least, omega arith, omega arith, g)
    at (inr g) ih = let r = ih g in (r.0, omega arith, omega arith, r.3)

pub at_or_after : (least k : ℕ) → least ≤ k → (least ≡ k) ⊎ (least + 1 ≤ k)
at_or_after least k h = grind arith

count_in : (p : ℕ → Bool) (least more k : ℕ) → least ≤ k → k < least + more → p k ≡ true
    → some_count p least more ≡ true
count_in p least zero k h l e = absurd (omega arith)
count_in p least (suc more) k h l e = at (at_or_after least k h) (count_in p (least + 1) more k)
  where
    at : (least ≡ k) ⊎ (least + 1 ≤ k)
        → (least + 1 ≤ k → k < (least + 1) + more → p k ≡ true → some_count p (least + 1) more
        ≡ true) → some_count p least (suc more) ≡ true
    at (inl g) ih = or_left _ _ (subst (λ n. p n ≡ true) (sym g) e)
    at (inr g) ih = or_right (p least) _ (ih g (omega arith) e)

-- of more pieces than bytes one is empty, and can be left out
drop_piece : (P : List ℕ → Type 0) (k : ℕ) (text : List ℕ) → length text ≤ k → Joined P (suc k) text
    → Joined P k text
drop_piece P k text h ([], rest, e, p, j) = subst (λ w. Joined P k w) (sym e) j
drop_piece P zero text h (b ∷ bs, rest, e, p, j) = let n : length text ≡ suc (length (bs ++ rest)) =
    ap length e in absurd (omega arith)
drop_piece P (suc k) text h (b ∷ bs, rest, e, p, j) =
    let n : length text ≡ suc (length (bs ++ rest)) = ap length e in
    let m : length (bs ++ rest) ≡ length bs + length rest = length-append bs rest in
    (b ∷ bs, rest, e, p, drop_piece P k rest (omega arith) j)

past_or_within : (k n : ℕ) → (suc k ≤ n) ⊎ (n ≤ k)
past_or_within k n = grind arith

few_pieces : (P : List ℕ → Type 0) (least k : ℕ) (text : List ℕ) → least ≤ k → Joined P k text
    → (i : ℕ) × (least ≤ i) × (i < least + (length text + 1)) × Joined P i text
few_pieces P least zero text h j = (zero, h, omega arith, j)
few_pieces P least (suc k) text h j =
    at (past_or_within k (least + length text)) (few_pieces P least k text)
  where
    at : (suc k ≤ least + length text) ⊎ (least + length text ≤ k)
        → (least ≤ k → Joined P k text → (i : ℕ) × (least ≤ i) × (i < least + (length text + 1))
        × Joined P i text) → (i : ℕ) × (least ≤ i) × (i < least + (length text + 1))
        × Joined P i text
    at (inl g) ih = (suc k, h, omega arith, j)
    at (inr g) ih = ih (omega arith) (drop_piece P k text (omega arith) j)

set_shows : (bytes : List ℕ) → Shows (holds (Set bytes)) (In (Set bytes))
unfolding holds
set_shows bytes [] = (λ h. cc, λ i. let e : [] ≡ i.0 ∷ [] = i.1 in cc)
set_shows bytes (b ∷ []) = (
  λ h. (b, refl, h),
  λ i. let p : b ≡ i.0 = cc in
      subst (λ n. list_any (λ c. c == n) bytes ≡ true) (sym p) i.2,
)
set_shows bytes (b ∷ c ∷ bs) = (λ h. cc, λ i. let e : b ∷ c ∷ bs ≡ i.0 ∷ [] = i.1 in cc)

module _ (p : List ℕ → Bool) (P : List ℕ → Type 0) (h : Shows p P) where
  repeat_onto : (least : ℕ) (most : Option ℕ) (text : List ℕ) → some_count (λ k. is_joined p k text)
      least (counts_from least most text) ≡ true → (k : ℕ) × (least ≤ k) × AtMost k most
      × Joined P k text
  repeat_onto least None text e =
      let c = count_onto (λ k. is_joined p k text) least (length text + 1) e in
      (c.0, c.1, tt, (joined_shows p P h c.0 text).0 c.3)
  repeat_onto least (Some most) text e =
      let c = count_onto (λ k. is_joined p k text) least ((most + 1) - least) e in
      (c.0, c.1, omega arith, (joined_shows p P h c.0 text).0 c.3)

  repeat_from : (least : ℕ) (most : Option ℕ) (text : List ℕ) → (k : ℕ) × (least ≤ k)
      × AtMost k most × Joined P k text → some_count (λ k. is_joined p k text) least
      (counts_from least most text) ≡ true
  repeat_from least None text (k, l, a, j) =
      let f = few_pieces P least k text l j in
      count_in (λ k. is_joined p k text) least (length text + 1) f.0 f.1 f.2
      ((joined_shows p P h f.0 text).1 f.3)
  repeat_from least (Some most) text (k, l, a, j) =
      count_in (λ k. is_joined p k text) least ((most + 1) - least) k l (omega arith)
      ((joined_shows p P h k text).1 j)

either_onto : (u v : Bool) (P Q : Type 0) → (u ≡ true → P) → (v ≡ true → Q) → (u || v) ≡ true
    → P ⊎ Q
either_onto true v P Q f g h = inl (f refl)
either_onto false v P Q f g h = inr (g h)

either_from : (u v : Bool) (P Q : Type 0) → (P → u ≡ true) → (Q → v ≡ true) → P ⊎ Q
    → (u || v) ≡ true
either_from u v P Q f g (inl p) = or_left _ _ (f p)
either_from u v P Q f g (inr q) = or_right u _ (g q)

-- the test tells the language
pub holds_shows : (t : Tree) → Shows (holds t) (In t)
unfolding holds
holds_shows (Set bytes) text = set_shows bytes text
holds_shows Nothing [] = (λ _. refl, λ _. refl)
holds_shows Nothing (b ∷ bs) = (λ h. cc, λ h. cc)
holds_shows (Both x y) text = (
  λ h. let c = cut_onto (holds x) (holds y) [] text h in
      (c.0, c.1, c.2, (holds_shows x c.0).0 c.3, (holds_shows y c.1).0 c.4),
  λ i. subst (λ w. some_cut (holds x) (holds y) [] w ≡ true) (sym i.2)
      (cut_from (holds x) (holds y) [] i.0 i.1 ((holds_shows x i.0).1 i.3)
      ((holds_shows y i.1).1 i.4)),
)
holds_shows (Either x y) text = (
  either_onto (holds x text) (holds y text) (In x text) (In y text) (holds_shows x text).0
      (holds_shows y text).0,
  either_from (holds x text) (holds y text) (In x text) (In y text) (holds_shows x text).1
      (holds_shows y text).1,
)
holds_shows (Repeat least most x) text = (
  repeat_onto (holds x) (In x) (holds_shows x) least most text,
  repeat_from (holds x) (In x)
      (holds_shows x) least most text,
)
