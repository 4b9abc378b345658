-- What a text reads as, from one backslash to the next, and that what was escaped reads as the
-- bytes.
use Rattle.std.proofs.Common.{◌≡◌, ◌∙◌, ap, sym, refl, ℕ, suc, ◌+◌, ◌/◌, ◌%◌, ◌<◌, ◌≤◌, Bool, true}
use Rattle.std.proofs.Common.{false, cond, List, [], ◌∷◌, ◌++◌, length, get_or, drop, append_assoc}
use Rattle.std.proofs.Common.{arith}
use Rattle.std.specs.Prelude.{Option, Some, None, ◌==◌, ◌&&◌, nat_lt}
use Rattle.std.specs.List.{list_all}
use Rattle.std.proofs.lemmas.Bool.Decides.{nat_tests}
use Rattle.std.specs.Cmp.{first_so, second_so}
use Rattle.label_base.specs.Cut.{front, behind}
use Rattle.label_base.specs.Escape.{is_plain_byte, escaped, is_octal, octal_value, octal_byte}
use Rattle.label_base.specs.Escape.{in_front, led_by, unescaped, after_backslash, unescaped_left}

pub in_front-nil : (o : Option (List ℕ)) → in_front [] o ≡ o
in_front-nil None = refl
in_front-nil (Some xs) = refl

pub in_front-append : (xs ys : List ℕ) (o : Option (List ℕ)) → in_front xs (in_front ys o)
    ≡ in_front (xs ++ ys) o
in_front-append xs ys None = refl
in_front-append xs ys (Some zs) = ap Some (sym (append_assoc xs ys zs))

pub unescaped-cons : (b : ℕ) (bs : List ℕ) → unescaped (b ∷ bs) ≡ cond (b == 92)
    (after_backslash bs) (led_by (Some b) (unescaped bs))
unfolding unescaped
unescaped-cons b [] = refl
unescaped-cons b (x ∷ []) = refl
unescaped-cons b (x ∷ y ∷ []) = refl
unescaped-cons b (x ∷ y ∷ z ∷ rest) = refl

first_cut : (b : ℕ) (bs : List ℕ) (v : Bool) → unescaped bs ≡ in_front (front (λ b. b == 92) bs)
    (unescaped_left (behind (λ b. b == 92) bs))
    → cond v (after_backslash bs) (led_by (Some b) (unescaped bs))
    ≡ in_front (cond v [] (b ∷ front (λ b. b == 92) bs))
    (unescaped_left (cond v (Some bs) (behind (λ b. b == 92) bs)))
first_cut b bs true ih = sym (in_front-nil (after_backslash bs))
first_cut b bs false ih = ap (in_front (b ∷ [])) ih
    ∙ in_front-append (b ∷ []) (front (λ b. b == 92) bs) (unescaped_left (behind (λ b. b == 92) bs))

-- a text is what stands before its first backslash, and what that and the rest read as
pub unescaped_cut : (text : List ℕ) → unescaped text ≡ in_front (front (λ b. b == 92) text)
    (unescaped_left (behind (λ b. b == 92) text))
unfolding unescaped
unescaped_cut [] = refl
unescaped_cut (b ∷ bs) = unescaped-cons b bs ∙ first_cut b bs (b == 92) (unescaped_cut bs)

-- a byte, plain text, and what is left behind it
pub after_cut : (read : List ℕ) (b : ℕ) (rest : List ℕ)
    → in_front read (led_by (Some b) (unescaped rest))
    ≡ in_front (read ++ b ∷ [] ++ front (λ b. b == 92) rest)
    (unescaped_left (behind (λ b. b == 92) rest))
after_cut read b rest =
    let left = unescaped_left (behind (λ b. b == 92) rest) in
    let plain = front (λ b. b == 92) rest in
    ap (λ o. in_front read (led_by (Some b) o)) (unescaped_cut rest)
    ∙ ap (in_front read) (in_front-append (b ∷ []) plain left)
    ∙ in_front-append read (b ∷ plain) left
    ∙ ap (λ xs. in_front xs left) (sym (append_assoc read (b ∷ []) plain))

pub after_three : (text : List ℕ) → 3 ≤ length text → after_backslash text
    ≡ led_by (octal_byte (get_or text 0 0) (get_or text 1 0) (get_or text 2 0))
    (unescaped (drop 3 text))
after_three [] h = absurd (omega arith)
after_three (x ∷ []) h = absurd (omega arith)
after_three (x ∷ y ∷ []) h = absurd (omega arith)
after_three (x ∷ y ∷ z ∷ rest) h = refl

-- ---- what was escaped

pub plain_apart : (b : ℕ) → is_plain_byte b ≡ true → (b == 92) ≡ false
plain_apart b h = grind (arith, nat_tests)

is_octal-digit : (q : ℕ) → q < 8 → is_octal (48 + q) ≡ true
is_octal-digit q h = grind (arith, nat_tests)

small : (n : ℕ) → n < 256 → nat_lt n 256 ≡ true
small n h = grind (arith, nat_tests)

all_hold : (p q r s : Bool) (v b : ℕ) → p ≡ true → q ≡ true → r ≡ true → s ≡ true → v ≡ b
    → cond (p && q && r && s) (Some v) None ≡ Some b
all_hold p q r s v b hp hq hr hs e = rw (hp, hq, hr, hs) (ap Some e)

pub octal_of : (b : ℕ) → b < 256 → octal_byte (48 + b / 64) (48 + b / 8 % 8) (48 + b % 8) ≡ Some b
octal_of b h =
    all_hold _ _ _ _ _ b (is_octal-digit (b / 64) (omega arith))
    (is_octal-digit (b / 8 % 8) (omega arith)) (is_octal-digit (b % 8) (omega arith))
    (small (octal_value (48 + b / 64) (48 + b / 8 % 8) (48 + b % 8)) (omega arith))
    (omega arith)

byte_back : (b : ℕ) (v : Bool) → b < 256 → is_plain_byte b ≡ v → (rest : List ℕ)
    → unescaped (cond v (b ∷ []) (92 ∷ (48 + b / 64) ∷ (48 + b / 8 % 8) ∷ (48 + b % 8) ∷ [])
    ++ rest) ≡ led_by (Some b) (unescaped rest)
unfolding unescaped
byte_back b true h e rest = unescaped-cons b rest
    ∙ ap (λ v. cond v (after_backslash rest) (led_by (Some b) (unescaped rest))) (plain_apart b e)
byte_back b false h e rest = ap (λ o. led_by o (unescaped rest)) (octal_of b h)

pub reads_back : (bytes : List ℕ) → ((k : ℕ) → get_or bytes k 0 < 256) → unescaped (escaped bytes)
    ≡ Some bytes
unfolding unescaped
reads_back [] h = refl
reads_back (b ∷ bs) h =
    byte_back b (is_plain_byte b) (h 0) refl (escaped bs)
    ∙ ap (led_by (Some b)) (reads_back bs (λ k. h (suc k)))

-- plain text is its own escaped form
pub escaped_plain : (bytes : List ℕ) → list_all is_plain_byte bytes ≡ true → escaped bytes ≡ bytes
escaped_plain [] h = refl
escaped_plain (b ∷ bs) h =
    ap (λ v. cond v (b ∷ []) (92 ∷ (48 + b / 64) ∷ (48 + b / 8 % 8) ∷ (48 + b % 8) ∷ [])
    ++ escaped bs) (first_so (is_plain_byte b) (list_all is_plain_byte bs) h)
    ∙ ap (λ xs. b ∷ xs)
    (escaped_plain bs (second_so (is_plain_byte b) (list_all is_plain_byte bs) h))
