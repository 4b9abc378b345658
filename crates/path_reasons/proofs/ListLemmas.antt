-- Lists gone through element by element, and their first and last that pass a test.
use Rattle.std.specs.Prelude.{Option, Some, None, option_map, not, ◌&&◌, filter, map, reverse}
use Rattle.std.specs.Prelude.{slice_get}
use Rattle.std.specs.List.{AllByRecursion, flat_map, last_or, position_or_len}
use Rattle.std.proofs.Common.{◌≡◌, ◌∙◌, refl, sym, ap, ℕ, zero, suc, ◌+◌, ◌<◌, ◌≤◌, Bool, true}
use Rattle.std.proofs.Common.{false}
use Rattle.std.proofs.Common.{cond, List, [], ◌∷◌, ◌++◌, length, take, drop, get_or, append-nil}
use Rattle.std.proofs.Common.{append_assoc, add-one, arith, subst}
use Rattle.std.proofs.lemmas.List.{at_drop_more, drop_all, reverse-append}
use Rattle.std.proofs.lemmas.List.Elements.{filter-append}
use Rattle.std.proofs.lemmas.List.{drop-map, map-append, take-map}
use Rattle.std.proofs.lemmas.Grind.{flat_map-append}

-- ---- one part more, of what all parts make

module _ {A B : Type 0} (F : List A → List B) (G : A → List B)
    (step : (y : A) (ys : List A) → F (y ∷ ys) ≡ G y ++ F ys) where
  pub next_part : (xs : List A) (k : ℕ) (x : A) (before now all : List B) → k < length xs
      → x ≡ get_or xs k x → before ++ F (drop k xs) ≡ all → now ≡ before ++ G x
      → now ++ F (drop (k + 1) xs) ≡ all
  next_part xs k x before now all l is b w =
      let rest = F (drop (k + 1) xs) in
      let here : F (drop k xs) ≡ G x ++ rest =
      at_drop_more F xs k x l ∙ step (get_or xs k x) (drop (k + 1) xs)
      ∙ ap (λ y. G y ++ rest) (sym is) in
      ap (λ t. t ++ rest) w ∙ append_assoc before (G x) rest ∙ ap (λ t. before ++ t) (sym here) ∙ b

pub no_part : {A B : Type 0} (F : List A → List B) (xs : List A) (k : ℕ) (to all : List B)
    → F [] ≡ [] → length xs ≤ k → to ++ F (drop k xs) ≡ all → to ≡ all
no_part F xs k to all none l b =
    sym (append-nil to) ∙ ap (λ t. to ++ t) (sym none)
    ∙ ap (λ ys. to ++ F ys) (sym (drop_all k xs l)) ∙ b

-- one that passes or not, before the others
pub filter_step : {A : Type 0} (p : A → Bool) (y : A) (ys : List A)
    → filter p (y ∷ ys) ≡ filter p (y ∷ []) ++ filter p ys
filter_step p y ys = filter-append p (y ∷ []) ys

-- ---- the first and the last that pass

pub first_else : {A : Type 0} → Option A → List A → Option A
first_else o [] = o
first_else o (x ∷ xs) = Some x

first_behind : {A : Type 0} (o : Option A) (xs : List A) (y : A)
    → first_else o (xs ++ y ∷ []) ≡ first_else (Some y) xs
unfolding first_else
first_behind o [] y = refl
first_behind o (x ∷ xs) y = refl

last_is_first_step : {A : Type 0} (o : Option A) (y : A) (ys : List A)
    → first_else (Some y) (reverse ys) ≡ last_or (Some y) ys
    → first_else o (reverse (y ∷ ys)) ≡ last_or (Some y) ys
last_is_first_step o y ys rest =
    ap (λ t. first_else o t) (reverse-append (y ∷ []) ys) ∙ first_behind o (reverse ys) y ∙ rest

-- the first of a list that is reversed is its last
pub last_is_first : {A : Type 0} (o : Option A) (ys : List A)
    → first_else o (reverse ys) ≡ last_or o ys
unfolding first_else
last_is_first o [] = refl
last_is_first o (y ∷ ys) = last_is_first_step o y ys (last_is_first (Some y) ys)

module _ {A : Type 0} (p : A → Bool) where
  next_place : (xs : List A) (n : ℕ) (x : A) → slice_get (x ∷ xs) (1 + n) ≡ slice_get xs n
  next_place xs n x = ap (λ k. slice_get (x ∷ xs) k) (let e : 1 + n ≡ suc n = omega arith in e)

  found_cond : (b : Bool) (x : A) (xs : List A)
      → slice_get xs (position_or_len p xs) ≡ first_else None (filter p xs)
      → slice_get (x ∷ xs) (cond (not b) (1 + position_or_len p xs) 0)
      ≡ first_else None (cond b (x ∷ filter p xs) (filter p xs))
  unfolding first_else
  found_cond true x xs rest = refl
  found_cond false x xs rest = next_place xs (position_or_len p xs) x ∙ rest

  -- what stands at the place of the first that passes
  pub found_first : (xs : List A)
      → slice_get xs (position_or_len p xs) ≡ first_else None (filter p xs)
  unfolding first_else
  found_first [] = refl
  found_first (x ∷ xs) = found_cond (p x) x xs (found_first xs)

  before_cond : (b : Bool) (x : A) (xs : List A) → p x ≡ b
      → AllByRecursion (λ y. p y ≡ false) (take (position_or_len p xs) xs)
      → AllByRecursion (λ y. p y ≡ false)
      (take (cond (not b) (1 + position_or_len p xs) 0) (x ∷ xs))
  before_cond true x xs is rest = tt
  before_cond false x xs is rest =
      subst (λ k. AllByRecursion (λ y. p y ≡ false) (take k (x ∷ xs)))
      (let e : suc (position_or_len p xs) ≡ 1 + position_or_len p xs = omega arith in e)
      (is, rest)

  -- none before that place does
  pub none_before : (xs : List A)
      → AllByRecursion (λ y. p y ≡ false) (take (position_or_len p xs) xs)
  none_before [] = tt
  none_before (x ∷ xs) = before_cond (p x) x xs refl (none_before xs)

  filter_cond : (q : A → Bool) (a b : Bool) (x : A) (xs : List A) → q x ≡ b
      → filter p (filter q xs) ≡ filter (λ y. p y && q y) xs → p x ≡ a
      → filter p (cond b (x ∷ filter q xs) (filter q xs))
      ≡ cond (a && b) (x ∷ filter (λ y. p y && q y) xs) (filter (λ y. p y && q y) xs)
  filter_cond q true true x xs isq rest isp =
      ap (λ c. cond c (x ∷ filter p (filter q xs)) (filter p (filter q xs))) isp
      ∙ ap (λ ys. x ∷ ys) rest
  filter_cond q false true x xs isq rest isp =
      ap (λ c. cond c (x ∷ filter p (filter q xs)) (filter p (filter q xs))) isp ∙ rest
  filter_cond q true false x xs isq rest isp = rest
  filter_cond q false false x xs isq rest isp = rest

  -- those that pass both tests
  pub filter_both : (q : A → Bool) (xs : List A)
      → filter p (filter q xs) ≡ filter (λ y. p y && q y) xs
  filter_both q [] = refl
  filter_both q (x ∷ xs) = filter_cond q (p x) (q x) x xs refl (filter_both q xs) refl

  reversed_cond : (x : A) (xs : List A) → filter p (reverse xs) ≡ reverse (filter p xs)
      → (b : Bool) → filter p (x ∷ []) ≡ cond b (x ∷ []) []
      → filter p (reverse xs ++ x ∷ []) ≡ reverse (cond b (x ∷ filter p xs) (filter p xs))
  reversed_cond x xs rest true is =
      filter-append p (reverse xs) (x ∷ []) ∙ ap (λ t. filter p (reverse xs) ++ t) is
      ∙ ap (λ t. t ++ x ∷ []) rest ∙ sym (reverse-append (x ∷ []) (filter p xs))
  reversed_cond x xs rest false is =
      filter-append p (reverse xs) (x ∷ []) ∙ ap (λ t. filter p (reverse xs) ++ t) is
      ∙ append-nil (filter p (reverse xs)) ∙ rest

  -- a list may be reversed before or after
  pub filter_reversed : (xs : List A) → filter p (reverse xs) ≡ reverse (filter p xs)
  filter_reversed [] = refl
  filter_reversed (x ∷ xs) =
      ap (λ t. filter p t) (reverse-append (x ∷ []) xs)
      ∙ reversed_cond x xs (filter_reversed xs) (p x) refl

-- what stands at a place parts the list
pub parted_at : {A : Type 0} (xs : List A) (n : ℕ) (x : A) → slice_get xs n ≡ Some x
    → xs ≡ take n xs ++ x ∷ drop (n + 1) xs
parted_at [] n x e = cc
parted_at (y ∷ ys) zero x e = let same : y ≡ x = cc in ap (λ z. z ∷ ys) same
parted_at (y ∷ ys) (suc n) x e = rw add-one (ap (λ zs. y ∷ zs)
    (parted_at ys n x e ∙ rw add-one refl))

mapped_cond : {A B : Type 0} (f : A → B) (p : B → Bool) (b : Bool) (x : A) (xs : List A)
    → (o : Option A)
    → ((o' : Option A) → option_map f (last_or o' (filter (λ y. p (f y)) xs))
    ≡ last_or (option_map f o') (filter p (map f xs)))
    → option_map f (last_or o (cond b (x ∷ filter (λ y. p (f y)) xs) (filter (λ y. p (f y)) xs)))
    ≡ last_or (option_map f o) (cond b (f x ∷ filter p (map f xs)) (filter p (map f xs)))
mapped_cond f p true x xs o rest = rest (Some x)
mapped_cond f p false x xs o rest = rest o

-- the last that passes, of what the elements are seen as
pub last_mapped : {A B : Type 0} (f : A → B) (p : B → Bool) (xs : List A) (o : Option A)
    → option_map f (last_or o (filter (λ y. p (f y)) xs))
    ≡ last_or (option_map f o) (filter p (map f xs))
last_mapped f p [] o = refl
last_mapped f p (x ∷ xs) o = mapped_cond f p (p (f x)) x xs o (last_mapped f p xs)

-- what elements are seen as, one behind the other
pub map_reversed : {A B : Type 0} (f : A → B) (xs : List A)
    → map f (reverse xs) ≡ reverse (map f xs)
map_reversed f [] = refl
map_reversed f (x ∷ xs) =
    ap (λ t. map f t) (reverse-append (x ∷ []) xs) ∙ map-append f (reverse xs) (x ∷ [])
    ∙ ap (λ t. t ++ f x ∷ []) (map_reversed f xs)
    ∙ sym (reverse-append (f x ∷ []) (map f xs))

-- what is made of a list without one place, in two parts
pub made_of_others : {M A B : Type 0} (v : M → A) (f : Bool → A → List B) (ms : List M)
    → (exact e : Bool) (place p : ℕ) (old mid new : List B) → exact ≡ e → place ≡ p
    → mid ≡ old ++ flat_map (f exact) (map v (take place ms))
    → new ≡ mid ++ flat_map (f exact) (map v (drop (place + 1) ms))
    → new ≡ old ++ flat_map (f e) (take p (map v ms) ++ drop (p + 1) (map v ms))
made_of_others v f ms exact e place p old mid new same at one two =
    let front = flat_map (f exact) (map v (take place ms)) in
    let back = flat_map (f exact) (map v (drop (place + 1) ms)) in
    two ∙ ap (λ t. t ++ back) one ∙ append_assoc old front back
    ∙ ap (λ t. old ++ t)
    (sym (flat_map-append (f exact) (map v (take place ms)) (map v (drop (place + 1) ms)))
    ∙ ap (λ xs. flat_map (f exact) (xs ++ map v (drop (place + 1) ms))) (sym (take-map v place ms))
    ∙ ap (λ xs. flat_map (f exact) (take place (map v ms) ++ xs)) (sym (drop-map v (place + 1) ms))
    ∙ ap (λ n. flat_map (f exact) (take n (map v ms) ++ drop (n + 1) (map v ms))) at
    ∙ ap (λ b. flat_map (f b) (take p (map v ms) ++ drop (p + 1) (map v ms))) same)

-- three parts, added one by one
pub three_parts : {A : Type 0} (old top middle end one two all : List A) → one ≡ old ++ top
    → two ≡ one ++ middle → all ≡ two ++ end → all ≡ old ++ ((top ++ middle) ++ end)
three_parts old top middle end one two all first second third =
    third
    ∙ ap (λ t. t ++ end)
    (second ∙ ap (λ t. t ++ middle) first ∙ append_assoc old top middle)
    ∙ append_assoc old (top ++ middle) end
