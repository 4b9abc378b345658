-- The fold over digits is the number that they stand for.
use Rattle.std.proofs.Common.{◌≡◌, ◌∙◌, sym, refl, ap, ℕ, ◌+◌, ◌*◌, ◌-◌, ◌^◌, ◌<◌, ◌≤◌, Bool, true}
use Rattle.std.proofs.Common.{false, cond, List, [], ◌∷◌, arith, length, ◌==◌, get_or, drop}
use Rattle.std.proofs.Common.{drop-cons, suc}
use Rattle.std.proofs.lemmas.Bool.Decides.{nat_tests}
use Rattle.std.proofs.lemmas.Bool.{ltb-false, ltb-true}
use Rattle.std.specs.Prelude.{Option, Some, None, fold, nat_lt, ◌&&◌}
use Rattle.std.specs.List.{list_all}
use Rattle.label_base.specs.Number.{with_digit, digit_of, is_digit, decimal, number_of}

abbrev pub next_value : Option ℕ → ℕ → Option ℕ
next_value None b = None
next_value (Some value) b = with_digit value (digit_of b)

abbrev whole : Bool → ℕ → Option ℕ
whole all value = cond (all && nat_lt value (2 ^ 64)) (Some value) None

none_stays : (bs : List ℕ) → fold next_value None bs ≡ None
none_stays [] = refl
none_stays (b ∷ bs) = none_stays bs

decimal_grows : (v : ℕ) (bs : List ℕ) → v ≤ decimal v bs
decimal_grows v [] = omega arith
decimal_grows v (b ∷ bs) = omega (arith, decimal_grows (v * 10 + (b - 48)) bs)

past : (all : Bool) (v : ℕ) → 2 ^ 64 ≤ v → whole all v ≡ None
past true v h = grind (arith, nat_tests)
past false v h = refl

abbrev stepped : Bool → Bool → ℕ → Option ℕ
stepped true small w = cond small (Some w) None
stepped false small w = None

step : (d small : Bool) (w : ℕ) (bs : List ℕ) → (small ≡ false → 2 ^ 64 ≤ w)
    → (small ≡ true → fold next_value (Some w) bs ≡ whole (list_all is_digit bs) (decimal w bs))
    → fold next_value (stepped d small w) bs ≡ whole (d && list_all is_digit bs) (decimal w bs)
step true true w bs big rest = rest refl
step true false w bs big rest = none_stays bs
    ∙ sym (past (list_all is_digit bs) (decimal w bs) (let b = big refl in
    omega (arith, b, decimal_grows w bs)))
step false small w bs big rest = none_stays bs

stepped_is : (v b : ℕ) (d : Bool) → with_digit v (cond d (Some (b - 48)) None)
    ≡ stepped d (nat_lt (v * 10 + (b - 48)) (2 ^ 64)) (v * 10 + (b - 48))
stepped_is v b true = refl
stepped_is v b false = refl

pub fold_is : (v : ℕ) (bs : List ℕ) → v < 2 ^ 64 → fold next_value (Some v) bs
    ≡ whole (list_all is_digit bs) (decimal v bs)
fold_is v [] h = grind (arith, nat_tests)
fold_is v (b ∷ bs) h =
    ap (λ o. fold next_value o bs) (stepped_is v b (is_digit b))
    ∙ step (is_digit b) (nat_lt (v * 10 + (b - 48)) (2 ^ 64)) (v * 10 + (b - 48)) bs
    (λ f. ltb-false _ _ f) (λ t. fold_is (v * 10 + (b - 48)) bs (ltb-true _ _ t))

pub fold_is_number : (bytes : List ℕ) → (length bytes == 0) ≡ false → fold next_value (Some 0) bytes
    ≡ number_of bytes
fold_is_number [] h = cc
fold_is_number (b ∷ bs) h = fold_is 0 (b ∷ bs) (omega arith)

-- nothing is left to read behind a byte that makes no number
pub ended : (v i : ℕ) (bs : List ℕ) → i < length bs → with_digit v (digit_of (get_or bs i 0)) ≡ None
    → fold next_value (Some v) (drop i bs) ≡ None
ended v i bs h e =
    ap (fold next_value (Some v)) (drop-cons bs i 0 h)
    ∙ ap (λ o. fold next_value o (drop (suc i) bs)) e ∙ none_stays (drop (suc i) bs)
