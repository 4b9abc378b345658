-- Facts on the shape of trees.
use Rattle.std.proofs.Common.{◌≡◌, ◌∙◌, refl, ap, ℕ, Bool, true, false, ◌&&◌, List, [], ◌∷◌, cond}
use Rattle.std.proofs.Common.{filter, ◌<◌, arith}
use Rattle.std.proofs.lemmas.Bool.Decides.{nat_tests}
use Rattle.std.specs.Cmp.{first_so, second_so}
use Rattle.std.specs.List.{list_all}
use Rattle.pattern_syntax.specs.Tree.{Tree, Set, Nothing, Both, Either, Repeat}
use Rattle.pattern_syntax.specs.Shape.{is_proper, is_sequence, is_proper_set, HasNoEmptySet}
use Rattle.pattern_syntax.specs.ByteSet.{bytes_with, text_bytes, is_none_of}
use Rattle.pattern_syntax.specs.Classes.{is_text_byte, all_but, is_digit_class, is_word_class}
use Rattle.pattern_syntax.specs.Classes.{is_space_class}

pub no_empty_set : (tree : Tree) → is_proper tree ≡ true → HasNoEmptySet tree
no_empty_set (Set []) h = absurd (let e : false ≡ true = h in cc)
no_empty_set (Set (b ∷ bs)) h = tt
no_empty_set Nothing h = tt
no_empty_set (Both first second) h =
    let p = second_so (is_sequence first) (is_proper first && is_proper second) h in (
      no_empty_set first (first_so (is_proper first) (is_proper second) p),
      no_empty_set second
          (second_so (is_proper first) (is_proper second) p),
    )
no_empty_set (Either left right) h = (
  no_empty_set left (first_so (is_proper left) (is_proper right) h),
  no_empty_set right
      (second_so (is_proper left) (is_proper right) h),
)
no_empty_set (Repeat least most piece) h = no_empty_set piece h

all_kept : (q p : ℕ → Bool) (xs : List ℕ) → list_all q xs ≡ true → list_all q (filter p xs) ≡ true
all_kept q p [] h = refl
all_kept q p (x ∷ xs) h = kept (p x) (first_so (q x) (list_all q xs) h)
    (all_kept q p xs (second_so (q x) (list_all q xs) h))
  where
    kept : (t : Bool) → q x ≡ true → list_all q (filter p xs) ≡ true
        → list_all q (cond t (x ∷ filter p xs) (filter p xs)) ≡ true
    kept true a b = ap (λ t. t && list_all q (filter p xs)) a ∙ b
    kept false a b = b

bytes_are_text : (p : ℕ → Bool) → list_all is_text_byte (bytes_with p) ≡ true
unfolding bytes_with
bytes_are_text p = all_kept is_text_byte p text_bytes refl

proper_list : (bs : List ℕ) → list_all is_text_byte bs ≡ true → is_none_of bs ≡ false
    → is_proper_set bs ≡ true
proper_list [] h k = absurd (let e : true ≡ false = k in cc)
proper_list (b ∷ bs) h k = h

pub proper_bytes : (p : ℕ → Bool) → is_none_of (bytes_with p) ≡ false → is_proper_set (bytes_with p)
    ≡ true
proper_bytes p h = proper_list (bytes_with p) (bytes_are_text p) h

pub digits_proper : is_proper_set (bytes_with is_digit_class) ≡ true
unfolding bytes_with
digits_proper = refl

pub words_proper : is_proper_set (bytes_with is_word_class) ≡ true
unfolding bytes_with
words_proper = refl

pub spaces_proper : is_proper_set (bytes_with is_space_class) ≡ true
unfolding bytes_with
spaces_proper = refl

pub no_digits_proper : is_proper_set (bytes_with (all_but is_digit_class)) ≡ true
unfolding bytes_with
no_digits_proper = refl

pub no_words_proper : is_proper_set (bytes_with (all_but is_word_class)) ≡ true
unfolding bytes_with
no_words_proper = refl

pub no_spaces_proper : is_proper_set (bytes_with (all_but is_space_class)) ≡ true
unfolding bytes_with
no_spaces_proper = refl

pub text_proper : is_proper_set (bytes_with is_text_byte) ≡ true
unfolding bytes_with
text_proper = refl

pub text_byte : (b : ℕ) → 0 < b → b < 256 → is_text_byte b ≡ true
text_byte b h k = grind (arith, nat_tests)
