-- Languages of patterns: the empty text, and texts by their first byte.
use Rattle.std.proofs.Common.{◌≡◌, refl, sym, ap, subst, ℕ, zero, suc, pred, ◌<◌, ◌≤◌, ◌==◌, true}
use Rattle.std.proofs.Common.{List, [], ◌∷◌, ◌++◌, Option, Some, None, ◌⊎◌, inl, inr, arith}
use Rattle.std.proofs.lemmas.Bool.{and_from, or_right, or_cases, or_left}
use Rattle.std.specs.Cmp.{first_so, second_so}
use Rattle.std.specs.List.{list_any}
use Rattle.pattern_syntax.specs.Tree.{Tree, Set, Nothing, Both, Either, Repeat}
use Rattle.pattern_syntax.specs.Language.{In, Joined, AtMost}
use Rattle.pattern_match.specs.Residuals.{has_texts, is_count, is_some_list}
use Rattle.pattern_match.specs.Quotients.{nullable}

pub at_most : (k : ℕ) (most : Option ℕ) → is_count k most ≡ true → AtMost k most
at_most k None h = tt
at_most k (Some n) h = grind arith

pub count_from : (l k : ℕ) (most : Option ℕ) → l ≤ k → AtMost k most → is_count l most ≡ true
count_from l k None h g = refl
count_from l k (Some n) h g = grind arith

pub is_zero : (n : ℕ) → (n == 0) ≡ true → n ≡ 0
is_zero n h = grind arith

zero_is : (n : ℕ) → n ≤ 0 → (n == 0) ≡ true
zero_is n h = grind arith

pub joined_empty : (P : List ℕ → Type 0) (k : ℕ) → P [] → Joined P k []
joined_empty P zero h = refl
joined_empty P (suc k) h = ([], [], refl, h, joined_empty P k h)

pub empty_in : (t : Tree) → nullable t ≡ true → In t []
empty_in (Set bytes) h = cc
empty_in Nothing h = refl
empty_in (Both f s) h =
    ([], [], refl, empty_in f (first_so (nullable f) _ h), empty_in s (second_so (nullable f) _ h))
empty_in (Either l r) h =
    elim (or_cases (nullable l) _ h) [ inl a ↦ inl (empty_in l a) | inr b ↦ inr (empty_in r b) ]
empty_in (Repeat least most piece) h = (
  least,
  omega arith,
  at_most least most (first_so (is_count least most) _ h),
  at
      (or_cases (least == 0) _ (second_so (is_count least most) _ h)) (empty_in piece),
)
  where
    at : ((least == 0) ≡ true) ⊎ (nullable piece ≡ true) → (nullable piece ≡ true → In piece [])
        → Joined (In piece) least []
    at (inl e) ih = let z = is_zero least e in subst (λ k. Joined (In piece) k []) (sym z) refl
    at (inr n) ih = joined_empty (In piece) least (ih n)

nil_front : (front rest : List ℕ) → [] ≡ front ++ rest → [] ≡ front
nil_front [] rest e = refl
nil_front (b ∷ bs) rest e = cc

nil_rest : (front rest : List ℕ) → [] ≡ front ++ rest → [] ≡ rest
nil_rest [] rest e = e
nil_rest (b ∷ bs) rest e = cc

pub in_empty : (t : Tree) → In t [] → nullable t ≡ true
in_empty (Set bytes) (b, e, h) = cc
in_empty Nothing h = refl
in_empty (Both f s) (front, rest, e, hf, hs) =
    and_from _ _ (in_empty f (subst (λ w. In f w) (sym (nil_front front rest e)) hf))
    (in_empty s (subst (λ w. In s w) (sym (nil_rest front rest e)) hs))
in_empty (Either l r) (inl a) = or_left _ _ (in_empty l a)
in_empty (Either l r) (inr b) = or_right (nullable l) _ (in_empty r b)
in_empty (Repeat least most piece) (zero, h, a, j) = and_from _ _ (count_from least zero most h a)
    (or_left (least == 0) _ (zero_is least (omega arith)))
in_empty (Repeat least most piece) (suc k, h, a, (front, rest, e, p, j)) =
    and_from _ _ (count_from least (suc k) most h a)
    (or_right (least == 0) _
    (in_empty piece (subst (λ w. In piece w) (sym (nil_front front rest e)) p)))

joined_some : (P : List ℕ → Type 0) (k : ℕ) (w : List ℕ) → P w → (text : List ℕ) × Joined P k text
joined_some P zero w h = ([], refl)
joined_some P (suc k) w h = let r = joined_some P k w h in (w ++ r.0, (w, r.0, refl, h, r.1))

-- a text of a language that holds one
pub text_of : (t : Tree) → has_texts t ≡ true → (text : List ℕ) × In t text
text_of (Set []) h = cc
text_of (Set (b ∷ bs)) h =
    (b ∷ [], (b, refl, or_left (b == b) (list_any (λ c. c == b) bs) (grind arith)))
text_of Nothing h = ([], refl)
text_of (Both f s) h = let a = text_of f (first_so (has_texts f) _ h) in
    let b = text_of s (second_so (has_texts f) _ h) in (a.0 ++ b.0, (a.0, b.0, refl, a.1, b.1))
text_of (Either l r) h =
    elim (or_cases (has_texts l) _ h) [
      | inl a ↦ (let x = text_of l a in (x.0, inl x.1))
      | inr b ↦ (let x = text_of r b in
          (x.0, inr x.1))
    ]
text_of (Repeat least most piece) h =
    at (or_cases (least == 0) _ (second_so (is_count least most) _ h)) (text_of piece)
  where
    at : ((least == 0) ≡ true) ⊎ (has_texts piece ≡ true)
        → (has_texts piece ≡ true → (text : List ℕ) × In piece text) → (text : List ℕ)
        × In (Repeat least most piece) text
    at (inl e) ih = let z = is_zero least e in (
      [],
      (
        least,
        omega arith,
        at_most least most (first_so (is_count least most) _ h),
        subst
            (λ k. Joined (In piece) k []) (sym z) refl,
      ),
    )
    at (inr n) ih = let x = ih n in let j = joined_some (In piece) least x.0 x.1 in
        (j.0, (least, omega arith, at_most least most (first_so (is_count least most) _ h), j.1))

pub some_set : (bytes : List ℕ) (b : ℕ) → list_any (λ c. c == b) bytes ≡ true
    → is_some_list bytes ≡ true
some_set [] b h = cc
some_set (c ∷ cs) b h = refl

pub has_text : (t : Tree) (text : List ℕ) → In t text → has_texts t ≡ true
has_text (Set bytes) text (b, e, h) = some_set bytes b h
has_text Nothing text h = refl
has_text (Both f s) text (front, rest, e, hf, hs) =
    and_from _ _ (has_text f front hf) (has_text s rest hs)
has_text (Either l r) text (inl a) = or_left _ _ (has_text l text a)
has_text (Either l r) text (inr b) = or_right (has_texts l) _ (has_text r text b)
has_text (Repeat least most piece) text (zero, h, a, j) =
    and_from _ _ (count_from least zero most h a)
    (or_left (least == 0) _ (zero_is least (omega arith)))
has_text (Repeat least most piece) text (suc k, h, a, (front, rest, e, p, j)) =
    and_from _ _ (count_from least (suc k) most h a)
    (or_right (least == 0) _ (has_text piece front p))

-- a text by its first byte, cut in two
pub cut_first : (b : ℕ) (t front rest : List ℕ) → b ∷ t ≡ front ++ rest
    → ((front ≡ []) × (b ∷ t ≡ rest)) ⊎ ((f : List ℕ) × (front ≡ b ∷ f) × (t ≡ f ++ rest))
cut_first b t [] rest e = inl (refl, e)
cut_first b t (c ∷ f) rest e = inr (let p : c ≡ b = cc in let q : t ≡ f ++ rest = cc in
    (f, ap (λ x. x ∷ f) p, q))

-- what follows after the first byte: in a first part, and then in a second
abbrev pub Steps : Tree → Tree → ℕ → List ℕ → Type 0
Steps first second b t = (front rest : List ℕ) × (t ≡ front ++ rest) × In first (b ∷ front)
    × In second rest

pub both_onto : (x y : Tree) (b : ℕ) (t : List ℕ) → In (Both x y) (b ∷ t)
    → Steps x y b t ⊎ ((nullable x ≡ true) × In y (b ∷ t))
both_onto x y b t (front, rest, e, hx, hy) = at (cut_first b t front rest e)
  where
    at : ((front ≡ []) × (b ∷ t ≡ rest)) ⊎ ((f : List ℕ) × (front ≡ b ∷ f) × (t ≡ f ++ rest))
        → Steps x y b t ⊎ ((nullable x ≡ true) × In y (b ∷ t))
    at (inl (p, q)) = inr (in_empty x (subst (λ w. In x w) p hx), subst (λ w. In y w) (sym q) hy)
    at (inr (f, p, q)) = inl (f, rest, q, subst (λ w. In x w) p hx, hy)

pub both_from : (x y : Tree) (b : ℕ) (t : List ℕ) → Steps x y b t → In (Both x y) (b ∷ t)
both_from x y b t (front, rest, e, hx, hy) = (b ∷ front, rest, ap (λ w. b ∷ w) e, hx, hy)

pub both_skip : (x y : Tree) (b : ℕ) (t : List ℕ) → nullable x ≡ true → In y (b ∷ t)
    → In (Both x y) (b ∷ t)
both_skip x y b t n h = ([], b ∷ t, refl, empty_in x n, h)

-- pieces joined, by the first that isn't empty
First : (List ℕ → Type 0) → ℕ → ℕ → List ℕ → Type 0
First P k b t = (front rest : List ℕ) × (t ≡ front ++ rest) × P (b ∷ front)
    × ((i : ℕ) × (i < k) × Joined P i rest × (P [] ⊎ (k ≡ suc i)))

first_piece : (P : List ℕ → Type 0) (k b : ℕ) (t : List ℕ) → Joined P k (b ∷ t) → First P k b t
unfolding First
first_piece P zero b t e = cc
first_piece P (suc k) b t (front, rest, e, p, j) =
    at (cut_first b t front rest e) (first_piece P k b t)
  where
    at : ((front ≡ []) × (b ∷ t ≡ rest)) ⊎ ((f : List ℕ) × (front ≡ b ∷ f) × (t ≡ f ++ rest))
        → (Joined P k (b ∷ t) → First P k b t) → First P (suc k) b t
    at (inl (u, v)) ih =
        let r = ih (subst (λ w. Joined P k w) (sym v) j) in
        (r.0, r.1, r.2, r.3, (r.4.0, omega arith, r.4.2, inl (subst P u p)))
    at (inr (f, u, v)) ih = (f, rest, v, subst P u p, (k, omega arith, j, inr refl))

cases_le : (i c : ℕ) → i ≤ suc c → (i ≤ c) ⊎ (i ≡ suc c)
cases_le i c h = grind arith

pad : (P : List ℕ → Type 0) (i c : ℕ) (t : List ℕ) → P [] → i ≤ c → Joined P i t → Joined P c t
pad P i zero t p h j = let z : i ≡ 0 = omega arith in subst (λ k. Joined P k t) z j
pad P i (suc c) t p h j = at (cases_le i c h) (pad P i c t p)
  where
    at : (i ≤ c) ⊎ (i ≡ suc c) → (i ≤ c → Joined P i t → Joined P c t) → Joined P (suc c) t
    at (inl l) ih = ([], t, refl, p, ih l j)
    at (inr e) ih = subst (λ k. Joined P k t) e j

-- one time fewer
abbrev pub fewer : Option ℕ → Option ℕ
fewer None = None
fewer (Some zero) = Some zero
fewer (Some (suc n)) = Some n

at_fewer : (k i c : ℕ) (most : Option ℕ) → i < k → c ≤ pred k → AtMost k most
    → AtMost c (fewer most)
at_fewer k i c None l d h = tt
at_fewer k i c (Some zero) l d h = omega arith
at_fewer k i c (Some (suc n)) l d h = omega arith

pub repeat_onto : (least : ℕ) (most : Option ℕ) (x : Tree) (b : ℕ) (t : List ℕ)
    → In (Repeat least most x) (b ∷ t) → Steps x (Repeat (pred least) (fewer most) x) b t
unfolding First
repeat_onto least most x b t (k, l, a, j) = at (first_piece (In x) k b t j)
  where
    at : First (In x) k b t → Steps x (Repeat (pred least) (fewer most) x) b t
    at (front, rest, e, p, (i, lt, g, inl q)) = (
      front,
      rest,
      e,
      p,
      (
        pred k,
        omega arith,
        at_fewer k i (pred k) most lt (omega arith) a,
        pad
            (In x) i (pred k) rest q (omega arith) g,
      ),
    )
    at (front, rest, e, p, (i, lt, g, inr q)) =
        (front, rest, e, p, (i, omega arith, at_fewer k i i most lt (omega arith) a, g))

-- a repeat that isn't zero times at most
abbrev pub has_more : Option ℕ → Type 0
has_more None = Unit {0}
has_more (Some n) = 0 < n

at_more : (k : ℕ) (most : Option ℕ) → has_more most → AtMost k (fewer most) → AtMost (suc k) most
at_more k None m h = tt
at_more k (Some zero) m h = omega arith
at_more k (Some (suc n)) m h = omega arith

pub repeat_from : (least : ℕ) (most : Option ℕ) (x : Tree) (b : ℕ) (t : List ℕ) → has_more most
    → Steps x (Repeat (pred least) (fewer most) x) b t → In (Repeat least most x) (b ∷ t)
repeat_from least most x b t m (front, rest, e, p, (k, l, a, j)) =
    (suc k, omega arith, at_more k most m a, (b ∷ front, rest, ap (λ w. b ∷ w) e, p, j))
