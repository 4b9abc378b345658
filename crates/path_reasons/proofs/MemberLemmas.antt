-- Specifications that match, one by one.
use Rattle.std.specs.Prelude.{Option, Some, None, ◌&&◌, not, is_some, map}
use Rattle.std.specs.List.{position_or_len}
use Rattle.std.proofs.Common.{◌≡◌, ◌∙◌, refl, sym, ap, ℕ, ◌+◌, ◌<◌, ◌≤◌, Bool, true, false, cond}
use Rattle.std.proofs.Common.{List}
use Rattle.std.proofs.Common.{[], ◌∷◌, length, drop, get_or, arith}
use Rattle.std.proofs.lemmas.List.{at_drop_more, drop_all}
use Rattle.label_base.specs.Kind.{applies}
use Rattle.label_base.specs.declared.kind.Asked.TheVariants.{Any}
use Rattle.label_base.specs.declared.kind.EntryKind.{EntryKind}
use Rattle.spec_match.specs.LastMatch.{last_index, last_of}
use Rattle.spec_reader.specs.SpecValue.{SpecValue}
use Rattle.path_reasons.specs.Members.{does_speak}

alone_cond : (kind : Option EntryKind) (b : Bool) (spec : SpecValue)
    → is_some (last_of (map (λ (p : ℕ × SpecValue). p.0)
    (cond (applies kind Any && b) ((0, spec) ∷ []) []))) ≡ b
alone_cond None true spec = refl
alone_cond None false spec = refl
alone_cond (Some kind) true spec = refl
alone_cond (Some kind) false spec = refl

-- a specification alone is the last match, whatever its kind, where its language holds the text
pub alone : (text : List ℕ) (spec : SpecValue)
    → is_some (last_index Any text (spec ∷ [])) ≡ does_speak text spec
unfolding last_index
alone text spec = alone_cond spec.kind (does_speak text spec) spec

-- ---- the place of the first that passes

module _ {A : Type 0} (p : A → Bool) where
  not_first_cond : (b : Bool) (x : A) (xs : List A) → b ≡ false
      → cond (not b) (1 + position_or_len p xs) 0 ≡ 1 + position_or_len p xs
  not_first_cond true x xs is = cc
  not_first_cond false x xs is = refl

  first_cond : (b : Bool) (n : ℕ) → b ≡ true → cond (not b) n 0 ≡ 0
  first_cond true n is = refl
  first_cond false n is = cc

  -- one more that doesn't pass
  pub next_place : (xs : List A) (k : ℕ) (x : A) (count all : ℕ) → k < length xs
      → x ≡ get_or xs k x → count + position_or_len p (drop k xs) ≡ all → p x ≡ false
      → count + 1 + position_or_len p (drop (k + 1) xs) ≡ all
  next_place xs k x count all l is b f =
      let here : position_or_len p (drop k xs) ≡ 1 + position_or_len p (drop (k + 1) xs) =
      at_drop_more (λ ys. position_or_len p ys) xs k x l
      ∙ ap (λ y. position_or_len p (y ∷ drop (k + 1) xs)) (sym is)
      ∙ not_first_cond (p x) x (drop (k + 1) xs) f in
      omega (arith, here, b)

  -- one that passes
  pub place_here : (xs : List A) (k : ℕ) (x : A) (count all : ℕ) → k < length xs
      → x ≡ get_or xs k x → count + position_or_len p (drop k xs) ≡ all → p x ≡ true
      → count ≡ all
  place_here xs k x count all l is b t =
      let here : position_or_len p (drop k xs) ≡ 0 =
      at_drop_more (λ ys. position_or_len p ys) xs k x l
      ∙ ap (λ y. position_or_len p (y ∷ drop (k + 1) xs)) (sym is)
      ∙ first_cond (p x) (1 + position_or_len p (drop (k + 1) xs)) t in
      omega (arith, here, b)

  -- none does
  pub no_place : (xs : List A) (k count all : ℕ) → length xs ≤ k
      → count + position_or_len p (drop k xs) ≡ all → count ≡ all
  no_place xs k count all l b =
      let here : position_or_len p (drop k xs) ≡ 0 =
      ap (λ ys. position_or_len p ys) (drop_all k xs l) in
      omega (arith, here, b)

  mapped_place_cond : {B : Type 0} (f : B → A) (b : Bool) (n m : ℕ) → n ≡ m
      → cond (not b) (1 + n) 0 ≡ cond (not b) (1 + m) 0
  mapped_place_cond f b n m same = ap (λ k. cond (not b) (1 + k) 0) same

  -- the place, of what the elements are seen as
  pub mapped_place : {B : Type 0} (f : B → A) (ys : List B)
      → position_or_len (λ y. p (f y)) ys ≡ position_or_len p (map f ys)
  mapped_place f [] = refl
  mapped_place f (y ∷ ys) = mapped_place_cond f (p (f y)) _ _ (mapped_place f ys)
