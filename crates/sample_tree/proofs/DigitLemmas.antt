-- Numbers in decimal digits: which bytes they are, and that they are read back.
use Rattle.std.proofs.Common.{◌≡◌, ◌∙◌, ap, refl, sym, ℕ, ◌<◌, ◌≤◌, ◌^◌, Bool, true, false, cond}
use Rattle.std.proofs.Common.{List, [], ◌∷◌, ◌++◌, length, decimal, arith, rules}
use Rattle.std.specs.Prelude.{Option, Some, None, Contains, ◌&&◌}
use Rattle.std.specs.List.{list_all}
use Rattle.std.specs.Cmp.{first_so, second_so}
use Rattle.std.proofs.lemmas.Bool.{and_from, lt-ltb, true≢false}
use Rattle.std.proofs.lemmas.Bool.Decides.{nat_tests}
use Rattle.std.proofs.lemmas.Fmt.{decimal_nonempty, digits_decimal, digits_value-decimal}
use Rattle.std.proofs.lemmas.Fmt.{length-decimal-le}
use Rattle.std.proofs.lemmas.Str.Parse.{IsNumeralModel, numerals_by_fold}
use Rattle.label_base.specs.Number as number
use Rattle.label_base.specs.Number.{is_digit, number_of}
use Rattle.label_base.proofs.FirstCut.{lacks_more, lacks_nothing}

-- ---- tests of all bytes

-- a byte that fails a test doesn't stand where all pass it
pub lacks_by : (p : ℕ → Bool) (b : ℕ) (xs : List ℕ) → p b ≡ false → list_all p xs ≡ true
    → ¬ Contains xs b
lacks_by p b [] h all = lacks_nothing b
lacks_by p b (x ∷ xs) h all =
    lacks_more b x xs (λ e. true≢false (sym (first_so (p x) _ all) ∙ ap p e ∙ h))
    (lacks_by p b xs h (second_so (p x) _ all))

pub all_join : (p : ℕ → Bool) (xs ys : List ℕ) → list_all p xs ≡ true → list_all p ys ≡ true
    → list_all p (xs ++ ys) ≡ true
all_join p [] ys h g = g
all_join p (x ∷ xs) ys h g =
    and_from (p x) _ (first_so (p x) _ h) (all_join p xs ys (second_so (p x) _ h) g)

pub all_more : (p q : ℕ → Bool) → ((b : ℕ) → p b ≡ true → q b ≡ true) → (xs : List ℕ)
    → list_all p xs ≡ true → list_all q xs ≡ true
all_more p q wider [] h = refl
all_more p q wider (x ∷ xs) h = and_from (q x) _ (wider x (first_so (p x) _ h))
    (all_more p q wider xs (second_so (p x) _ h))

-- ---- digits

digits : IsNumeralModel (λ ds. list_all is_digit ds ≡ true) (number.decimal 0)
digits = numerals_by_fold _ (search (rules, nat_tests)) number.decimal (search rules)

chosen : (a b : Bool) (v w : Option ℕ) → a ≡ true → b ≡ true → cond (a && b) v w ≡ v
chosen true true v w h g = refl
chosen true false v w h g = cc
chosen false b v w h g = cc

read_digits : (ds : List ℕ) → 0 < length ds → list_all is_digit ds ≡ true
    → number.decimal 0 ds < 2 ^ 64 → number_of ds ≡ Some (number.decimal 0 ds)
read_digits [] some h small = absurd (omega arith)
read_digits (d ∷ ds) some h small = chosen _ _ _ None h (lt-ltb _ (2 ^ 64) small)

-- the bytes are the digits of a number, and read as it
pub record Writes (n : ℕ) (ds : List ℕ) : Type 0 where
  pub number : number_of ds ≡ Some n
  pub digits : list_all is_digit ds ≡ true
  pub short : length ds ≤ 7

pub written : (n : ℕ) → n < 10 ^ 7 → Writes n (decimal n)
written n few =
    let small : n < 2 ^ 64 = omega arith in
    let value = digits_value-decimal digits n small in
    record {
      number = read_digits (decimal n) (decimal_nonempty n small) (digits_decimal digits n small)
          (omega arith) ∙ ap Some value;
      digits = digits_decimal digits n small;
      short = length-decimal-le 7 n (omega arith) few small;
    }
