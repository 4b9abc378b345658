-- The words of the classes are the sets of the bytes that pass their tests.
use Rattle.std.proofs.Common.{◌≡◌, ◌∙◌, sym, refl, ap, ℕ, suc, zero, ◌/◌, ◌%◌, ◌<◌, ◌≤◌, Bool, true}
use Rattle.std.proofs.Common.{false, nat_eq, ◌&&◌, [], ◌∷◌, arith, ⊎_elim}
use std.Path.{fun_ext}
use Rattle.std.specs.Prelude.{not}
use Rattle.std.specs.Int.{bit_at}
use Rattle.std.proofs.lemmas.List.{get_or_past}
use Rattle.std.proofs.lemmas.Bool.{cases_lt, cases_eq}
use Rattle.std.proofs.lemmas.Bool.Decides.{nat_tests}
use Rattle.std.proofs.lemmas.Nat.Bits.{bit_at-zero}
use Rattle.std.specs.Cmp.{first_so, second_so}
use Rattle.pattern_syntax.specs.ByteSet.{has_byte}
use Rattle.pattern_syntax.specs.Classes.{is_digit_class, is_word_class, is_space_class, is_alpha}
use Rattle.pattern_syntax.specs.Classes.{is_lower, is_upper, is_alnum, is_hexadecimal}
use Rattle.pattern_syntax.specs.Classes.{is_blank_class, is_control, is_graphic, is_printed}
use Rattle.pattern_syntax.specs.Classes.{is_punctuation, is_text_byte}
use Rattle.pattern_syntax.specs.declared.byte_set.ByteSet.{ByteSet}

abbrev same : Bool → Bool → Bool
same true b = b
same false b = not b

abbrev same_below : (ℕ → Bool) → (ℕ → Bool) → ℕ → Bool
same_below f g zero = true
same_below f g (suc n) = same (f n) (g n) && same_below f g n

same_means : (a b : Bool) → same a b ≡ true → a ≡ b
same_means true true h = refl
same_means false false h = refl
same_means true false h = sym h
same_means false true h = h

below_means : (f g : ℕ → Bool) (n : ℕ) → same_below f g n ≡ true → (c : ℕ) → c < n → f c ≡ g c
below_means f g zero h c k = absurd (omega arith)
below_means f g (suc n) h c k =
    ⊎_elim (λ (e : c ≡ n). ap f e
    ∙ same_means (f n) (g n) (first_so (same (f n) (g n)) (same_below f g n) h) ∙ ap g (sym e))
    (λ ne. below_means f g n (second_so (same (f n) (g n)) (same_below f g n) h) c (omega arith))
    (cases_eq c n)

abbrev set_of : ℕ → ℕ → ℕ → ℕ → ByteSet
set_of a b c d = record { words = a ∷ b ∷ c ∷ d ∷ [] }

has_none : (a b c d n : ℕ) → 256 ≤ n → has_byte (set_of a b c d) n ≡ false
has_none a b c d n h =
    ap (λ w. nat_eq (bit_at w (n % 64)) 1)
    (get_or_past (a ∷ b ∷ c ∷ d ∷ []) (n / 64) 0 (omega arith))
    ∙ ap (λ m. nat_eq m 1) (bit_at-zero (n % 64))

same_sets : (a b c d : ℕ) (p : ℕ → Bool) → same_below (has_byte (set_of a b c d)) p 256 ≡ true
    → ((n : ℕ) → 256 ≤ n → p n ≡ false) → has_byte (set_of a b c d) ≡ p
same_sets a b c d p h past =
    fun_ext (λ (n : ℕ). ⊎_elim (λ k. below_means (has_byte (set_of a b c d)) p 256 h n k)
    (λ k. has_none a b c d n k ∙ sym (past n k)) (cases_lt n 256))

pub digits_are : has_byte (record { words = 287948901175001088 ∷ 0 ∷ 0 ∷ 0 ∷ [] }) ≡ is_digit_class
digits_are = same_sets 287948901175001088 0 0 0 is_digit_class refl
    (λ n h. grind (arith, nat_tests))

pub words_are : has_byte (record { words = 287948901175001088 ∷ 576460745995190270 ∷ 0 ∷ 0 ∷ [] })
    ≡ is_word_class
words_are = same_sets 287948901175001088 576460745995190270 0 0 is_word_class refl
    (λ n h. grind (arith, nat_tests))

pub spaces_are : has_byte (record { words = 4294983168 ∷ 0 ∷ 0 ∷ 0 ∷ [] }) ≡ is_space_class
spaces_are = same_sets 4294983168 0 0 0 is_space_class refl (λ n h. grind (arith, nat_tests))

pub letters_are : has_byte (record { words = 0 ∷ 576460743847706622 ∷ 0 ∷ 0 ∷ [] }) ≡ is_alpha
letters_are = same_sets 0 576460743847706622 0 0 is_alpha refl (λ n h. grind (arith, nat_tests))

pub small_letters_are : has_byte (record { words = 0 ∷ 576460743713488896 ∷ 0 ∷ 0 ∷ [] }) ≡ is_lower
small_letters_are = same_sets 0 576460743713488896 0 0 is_lower refl
    (λ n h. grind (arith, nat_tests))

pub capitals_are : has_byte (record { words = 0 ∷ 134217726 ∷ 0 ∷ 0 ∷ [] }) ≡ is_upper
capitals_are = same_sets 0 134217726 0 0 is_upper refl (λ n h. grind (arith, nat_tests))

pub letters_and_digits_are : has_byte
    (record { words = 287948901175001088 ∷ 576460743847706622 ∷ 0 ∷ 0 ∷ [] }) ≡ is_alnum
letters_and_digits_are = same_sets 287948901175001088 576460743847706622 0 0 is_alnum refl
    (λ n h. grind (arith, nat_tests))

pub hexadecimal_digits_are : has_byte
    (record { words = 287948901175001088 ∷ 541165879422 ∷ 0 ∷ 0 ∷ [] }) ≡ is_hexadecimal
hexadecimal_digits_are = same_sets 287948901175001088 541165879422 0 0 is_hexadecimal refl
    (λ n h. grind (arith, nat_tests))

pub blanks_are : has_byte (record { words = 4294967808 ∷ 0 ∷ 0 ∷ 0 ∷ [] }) ≡ is_blank_class
blanks_are = same_sets 4294967808 0 0 0 is_blank_class refl (λ n h. grind (arith, nat_tests))

pub controls_are : has_byte (record { words = 4294967294 ∷ 9223372036854775808 ∷ 0 ∷ 0 ∷ [] })
    ≡ is_control
controls_are = same_sets 4294967294 9223372036854775808 0 0 is_control refl
    (λ n h. grind (arith, nat_tests))

pub graphics_are : has_byte
    (record { words = 18446744065119617024 ∷ 9223372036854775807 ∷ 0 ∷ 0 ∷ [] }) ≡ is_graphic
graphics_are = same_sets 18446744065119617024 9223372036854775807 0 0 is_graphic refl
    (λ n h. grind (arith, nat_tests))

pub printed_are : has_byte
    (record { words = 18446744069414584320 ∷ 9223372036854775807 ∷ 0 ∷ 0 ∷ [] }) ≡ is_printed
printed_are = same_sets 18446744069414584320 9223372036854775807 0 0 is_printed refl
    (λ n h. grind (arith, nat_tests))

pub punctuation_are : has_byte
    (record { words = 18158795163944615936 ∷ 8646911293007069185 ∷ 0 ∷ 0 ∷ [] }) ≡ is_punctuation
punctuation_are = same_sets 18158795163944615936 8646911293007069185 0 0 is_punctuation refl
    (λ n h. grind (arith, nat_tests))

pub text_bytes_are : has_byte
    (record {
      words = 18446744073709551614 ∷ 18446744073709551615 ∷ 18446744073709551615
          ∷ 18446744073709551615 ∷ [];
    }) ≡ is_text_byte
text_bytes_are = same_sets 18446744073709551614 18446744073709551615 18446744073709551615
    18446744073709551615 is_text_byte refl (λ n h. grind (arith, nat_tests))
