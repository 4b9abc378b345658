-- Which bytes a class has.
use Rattle.std.proofs.Common.{◌≡◌, refl, sym, subst, ℕ, ◌+◌, ◌<◌, ◌≤◌, ◌==◌, not, Bool, true, false}
use Rattle.std.proofs.Common.{cond, List, [], ◌∷◌, length, get_or, zero, suc, None, ◌⊎◌, inl, inr}
use Rattle.std.proofs.Common.{Decides, arith}
use Rattle.std.specs.Prelude.{filter, slice_get, ◌||◌}
use Rattle.std.specs.List.{list_any, range_with_len}
use Rattle.std.proofs.lemmas.Bool.Decides.{Decides-eqb, Decides-like}
use Rattle.std.proofs.lemmas.Option.{slice_get_past, slice_get_read}
use Rattle.std.proofs.lemmas.Bool.{or_right, or_cases}
use Rattle.pattern_syntax.proofs.PartsLemmas.{same_byte}
use Rattle.pattern_match.proofs.Language.{some_set}
use Rattle.pattern_match.proofs.Holding.{at_or_after}
use Rattle.std.specs.Cmp.{both_ways, second_so}
use Rattle.pattern_syntax.specs.declared.byte_set.ByteSet.{ByteSet}
use Rattle.pattern_syntax.specs.ByteSet.{bytes_with, has_byte}
use Rattle.pattern_match.specs.declared.class.Class.{Class}
use Rattle.pattern_match.specs.declared.class.Class.TheVariants.{Byte, Set}
use Rattle.pattern_match.specs.Class.{HasEachByte, class_bytes, has_class, takes, takes_at}
use Rattle.pattern_match.specs.Residuals.{is_some_list}

keep : (b lo : ℕ) (v : Bool) (kept : List ℕ) → list_any (λ c. c == b) kept ≡ true
    → list_any (λ c. c == b) (cond v (lo ∷ kept) kept) ≡ true
keep b lo true kept h = or_right (lo == b) _ h
keep b lo false kept h = h

put : (b lo : ℕ) (v : Bool) (kept : List ℕ) → lo ≡ b → v ≡ true
    → list_any (λ c. c == b) (cond v (lo ∷ kept) kept) ≡ true
put b lo true kept e h = let s : (lo == b) ≡ true = rw e (same_byte b) in rw s refl
put b lo false kept e h = cc

-- a number that passes is kept from a run of numbers
kept_at : (p : ℕ → Bool) (lo n b : ℕ) → lo ≤ b → b < lo + n → p b ≡ true
    → list_any (λ c. c == b) (filter p (range_with_len lo n)) ≡ true
kept_at p lo zero b h l e = absurd (omega arith)
kept_at p lo (suc n) b h l e = at (at_or_after lo b h) (kept_at p (lo + 1) n b)
  where
    at : (lo ≡ b) ⊎ (lo + 1 ≤ b)
        → (lo + 1 ≤ b → b < (lo + 1) + n → p b ≡ true
        → list_any (λ c. c == b) (filter p (range_with_len (lo + 1) n)) ≡ true)
        → list_any (λ c. c == b) (filter p (range_with_len lo (suc n))) ≡ true
    at (inl q) ih = put b lo (p lo) (filter p (range_with_len (lo + 1) n)) q (rw q e)
    at (inr q) ih = keep b lo (p lo) (filter p (range_with_len (lo + 1) n)) (ih q (omega arith) e)

-- what is kept passes
kept_passes : (p : ℕ → Bool) (xs : List ℕ) (b : ℕ) → list_any (λ c. c == b) (filter p xs) ≡ true
    → p b ≡ true
kept_passes p [] b h = cc
kept_passes p (x ∷ xs) b h = at (p x) refl h (kept_passes p xs b)
  where
    at : (v : Bool) → p x ≡ v → list_any (λ c. c == b) (cond v (x ∷ filter p xs) (filter p xs))
        ≡ true → (list_any (λ c. c == b) (filter p xs) ≡ true → p b ≡ true) → p b ≡ true
    at true q g ih =
        elim (or_cases (x == b) _ g)
        [ inl e ↦ (let f : x ≡ b = grind arith in subst (λ n. p n ≡ true) f q) | inr r ↦ ih r ]
    at false q g ih = ih g

-- of a run of numbers none is kept where none passes
none_kept : (p : ℕ → Bool) (lo n : ℕ) → ((b : ℕ) → lo ≤ b → b < lo + n → p b ≡ false)
    → is_some_list (filter p (range_with_len lo n)) ≡ false
none_kept p lo zero h = refl
none_kept p lo (suc n) h = let e : p lo ≡ false = h lo (omega arith) (omega arith) in
    rw e (none_kept p (lo + 1) n (λ b l m. h b (omega arith) (omega arith)))

-- the bytes of a set, as texts have them
pub some_bytes : (p : ℕ → Bool) (b : ℕ) → 0 < b → b < 256 → p b ≡ true → is_some_list (bytes_with p)
    ≡ true
unfolding bytes_with
some_bytes p b l m e =
    some_set (filter p (range_with_len 1 255)) b (kept_at p 1 255 b (omega arith) (omega arith) e)

pub no_bytes : (p : ℕ → Bool) → ((b : ℕ) → 0 < b → b < 256 → p b ≡ false)
    → is_some_list (bytes_with p) ≡ false
unfolding bytes_with
no_bytes p h = none_kept p 1 255 (λ b l m. h b (omega arith) (omega arith))

set_bytes : (p : ℕ → Bool) (b : ℕ) → 0 < b → b < 256 → p b ≡ list_any (λ c. c == b) (bytes_with p)
unfolding bytes_with
set_bytes p b l m = both_ways (p b) (list_any (λ c. c == b) (filter p (range_with_len 1 255)))
    (kept_at p 1 255 b (omega arith) (omega arith)) (kept_passes p (range_with_len 1 255) b)

none_below : (p : ℕ → Bool) (lo n b : ℕ) → b < lo
    → list_any (λ c. c == b) (filter p (range_with_len lo n)) ≡ false
none_below p lo zero b l = refl
none_below p lo (suc n) b l = at (p lo) (none_below p (lo + 1) n b (omega arith))
  where
    at : (v : Bool) → list_any (λ c. c == b) (filter p (range_with_len (lo + 1) n)) ≡ false
        → list_any (λ c. c == b)
        (cond v (lo ∷ filter p (range_with_len (lo + 1) n)) (filter p (range_with_len (lo + 1) n)))
        ≡ false
    at true h = let s : (lo == b) ≡ false = grind arith in rw (s, h) refl
    at false h = h

no_zero : (p : ℕ → Bool) → false ≡ list_any (λ c. c == 0) (bytes_with p)
unfolding bytes_with
no_zero p = sym (none_below p 1 255 0 (omega arith))

or_false : (v : Bool) → v ≡ (v || false)
or_false true = refl
or_false false = refl

is_zero : (b : ℕ) → (b ≡ 0) ⊎ (0 < b)
is_zero b = grind arith

-- whether a class takes a byte is whether it is one of its bytes
pub class_takes : (class : Class) (b : ℕ) → b < 256 → takes class b ≡ list_any (λ c. c == b)
    (class_bytes class)
class_takes (Byte c) b m = or_false (c == b)
class_takes (Set set) b m = at (is_zero b)
  where
    at : (b ≡ 0) ⊎ (0 < b) → takes (Set set) b ≡ list_any (λ c. c == b) (bytes_with (has_byte set))
    at (inl e) = rw e (no_zero (has_byte set))
    at (inr l) = let n : (b == 0) ≡ false = grind arith in rw n (set_bytes (has_byte set) b l m)

-- ---- classes of every byte that texts have

pub byte_lacks : (class : Class) (c : ℕ) → class ≡ Byte c → HasEachByte (takes class) → ⊥
byte_lacks class c e h =
    let each : HasEachByte (takes (Byte c)) = subst (λ k. HasEachByte (takes k)) e h in
    let one : c ≡ 1 = (Decides-eqb c 1).0 (each 1 (omega arith) (omega arith)) in
    let two : c ≡ 2 = (Decides-eqb c 2).0 (each 2 (omega arith) (omega arith)) in
    omega arith

set_takes : (set : ByteSet) → HasEachByte (has_byte set) → HasEachByte (takes (Set set))
set_takes set h b l m = let n : (b == 0) ≡ false = grind arith in rw n (h b l m)

takes_set : (set : ByteSet) → HasEachByte (takes (Set set)) → HasEachByte (has_byte set)
takes_set set h b l m = second_so (not (b == 0)) _ (h b l m)

pub set_each : (set : ByteSet) (v : Bool) → Decides v (HasEachByte (has_byte set))
    → Decides v (HasEachByte (takes (Set set)))
set_each set v d = Decides-like v (set_takes set) (takes_set set) d

pub none_each : (classes : List Class) (i : ℕ) → length classes ≤ i
    → HasEachByte (takes_at classes i) → ⊥
none_each classes i l h =
    let n : slice_get classes i ≡ None = slice_get_past classes i l in
    let e : has_class None 1 ≡ true =
    subst (λ o. has_class o 1 ≡ true) n (h 1 (omega arith) (omega arith)) in
    cc

pub some_each : (classes : List Class) (i : ℕ) (class : Class) (v : Bool) → i < length classes
    → class ≡ get_or classes i class → Decides v (HasEachByte (takes class))
    → Decides v (HasEachByte (takes_at classes i))
some_each classes i class v l e d = subst (λ o. Decides v (HasEachByte (has_class o)))
    (sym (slice_get_read classes (length classes) i class refl l e)) d
