-- The first bytes of two texts, as numbers, decide their order, or say that what stands behind
-- does.
use Rattle.std.proofs.Common.{◌≡◌, refl, sym, ap, ◌∙◌, ℕ, ◌+◌, ◌*◌, ◌<◌, ◌≤◌, ◌^◌, true, List, []}
use Rattle.std.proofs.Common.{◌∷◌, drop, get_or, arith, add-one, zero, suc}
use Rattle.std.proofs.Math.Nat.{pow-le-pow_right}
use Rattle.std.proofs.lemmas.Grind.{pow_more}
use Rattle.std.proofs.lemmas.Bool.Decides.{nat_tests}
use Rattle.std.specs.Ordering.{nat_cmp, ordering_then, is_ne}
use Rattle.std.specs.declared.cmp.Ordering.{Ordering}
use Rattle.std.specs.declared.cmp.Ordering.TheVariants.{Less, Equal, Greater}
use Rattle.file_paths.specs.PathFront.{digit, front_length, IsKey}
use Rattle.file_paths.specs.Path.{path_cmp, path_names}
use Rattle.file_paths.proofs.PathTexts.{cmp_more, cmp_normal, cmp_zero_left, cmp_zero_right}
use Rattle.file_paths.specs.PathText.{byte_rank, text_cmp}

abbrev pub AreBytes : List ℕ → Type 0
AreBytes text = (k : ℕ) → get_or text k 0 < 256

then_assoc : (o p q : Ordering) → ordering_then o (ordering_then p q) ≡ ordering_then
    (ordering_then o p) q
then_assoc Less p q = refl
then_assoc Equal p q = refl
then_assoc Greater p q = refl

bytes_behind : (k : ℕ) (text : List ℕ) → AreBytes text → AreBytes (drop k text)
bytes_behind zero text h = h
bytes_behind (suc k) [] h = h
bytes_behind (suc k) (b ∷ bs) h = bytes_behind k bs (λ i. h (suc i))

drop_one : (k : ℕ) (text : List ℕ) → drop 1 (drop k text) ≡ drop (suc k) text
drop_one zero text = refl
drop_one (suc k) [] = refl
drop_one (suc k) (b ∷ bs) = drop_one k bs

rank_small : (b : ℕ) → b < 256 → byte_rank b < 257
rank_small b h = grind (arith, nat_tests)

digit_small : (text : List ℕ) → AreBytes text → digit text < 512
digit_small [] h = omega arith
digit_small (b ∷ bs) h = let r = rank_small b (h 0) in omega (arith, r)

-- the first byte's digit, and then what stands behind it
by_digit : (xs ys : List ℕ) → text_cmp xs ys ≡ ordering_then (nat_cmp (digit xs) (digit ys))
    (text_cmp (drop 1 xs) (drop 1 ys))
by_digit [] [] = refl
by_digit [] (y ∷ ys) = rw (cmp_zero_left (byte_rank y)) refl
by_digit (x ∷ xs) [] = rw (cmp_zero_right (byte_rank x)) refl
by_digit (x ∷ xs) (y ∷ ys) = rw (cmp_more (byte_rank x) (byte_rank y)) refl

-- numbers of two digits are compared by the first and then by the second
digits_cmp : (a b d e : ℕ) → d < 512 → e < 512 → nat_cmp (a * 512 + d) (b * 512 + e) ≡ ordering_then
    (nat_cmp a b) (nat_cmp d e)
digits_cmp a b d e h g = grind (arith, nat_tests)

pub by_front : (k : ℕ) (xs ys : List ℕ) → AreBytes xs → AreBytes ys
    → text_cmp xs ys ≡ ordering_then (nat_cmp (front_length xs k) (front_length ys k))
    (text_cmp (drop k xs) (drop k ys))
by_front zero xs ys h g = refl
by_front (suc k) xs ys h g =
    let x = drop k xs in
    let y = drop k ys in
    let above = nat_cmp (front_length xs k) (front_length ys k) in
    let here = nat_cmp (digit x) (digit y) in
    let next : ordering_then here (text_cmp (drop 1 x) (drop 1 y)) ≡ ordering_then here
    (text_cmp (drop (suc k) xs) (drop (suc k) ys))
    = ap (λ l. ordering_then here (text_cmp l (drop 1 y))) (drop_one k xs)
    ∙ ap (λ l. ordering_then here (text_cmp (drop (suc k) xs) l)) (drop_one k ys) in
    by_front k xs ys h g
    ∙ ap (ordering_then above) (by_digit x y ∙ next)
    ∙ then_assoc above here (text_cmp (drop (suc k) xs) (drop (suc k) ys))
    ∙ ap (λ o. ordering_then o (text_cmp (drop (suc k) xs) (drop (suc k) ys)))
    (sym (digits_cmp (front_length xs k) (front_length ys k) (digit x) (digit y)
    (digit_small x (bytes_behind k xs h)) (digit_small y (bytes_behind k ys g))))

-- seven digits fit into a word
pub word_small : (k word : ℕ) → k < 7 → word < 512 ^ k → word < 512 ^ 6
word_small k word h g = let p : 512 ^ k ≤ 512 ^ 6 =
    (let few : k ≤ 6 = omega (arith, h) in pow-le-pow_right {n = 512} (omega arith) {i = k} {j = 6}
    few) in
    omega (arith, g, p)

pub next_word : (k word d : ℕ) → word < 512 ^ k → d < 512 → word * 512 + d < 512 ^ (k + 1)
next_word k word d h g = let p : 512 ^ (k + 1) ≡ 512 ^ k * 512 = pow_more 512 k in
    omega (arith, h, g, p)

pub word_fits : (word d : ℕ) → word < 512 ^ 6 → d < 512 → word * 512 + d < 18446744073709551616
word_fits word d h g = omega (arith, h, g)

decided : (r rest : Ordering) → is_ne r ≡ true → ordering_then r rest ≡ r
decided Less rest h = refl
decided Equal rest h = cc
decided Greater rest h = refl

-- unequal words decide the order of paths
pub by_words : (xs ys : List ℕ) (a b d a' b' d' : ℕ) (r : Ordering) → IsKey xs a b d
    → IsKey ys a' b' d'
    → r ≡ ordering_then (ordering_then (nat_cmp a a') (nat_cmp b b')) (nat_cmp d d')
    → is_ne r ≡ true → r ≡ path_cmp (path_names xs) (path_names ys)
by_words xs ys a b d a' b' d' r own others e n =
    let xs' = drop 7 xs in
    let ys' = drop 7 ys in
    let own' = bytes_behind 7 xs own.bytes in
    let others' = bytes_behind 7 ys others.bytes in
    let rest = text_cmp (drop 7 (drop 7 xs')) (drop 7 (drop 7 ys')) in
    let one = nat_cmp (front_length xs 7) (front_length ys 7) in
    let two = nat_cmp (front_length xs' 7) (front_length ys' 7) in
    let three = nat_cmp (front_length (drop 7 xs') 7) (front_length (drop 7 ys') 7) in
    let words : r ≡ ordering_then (ordering_then one two) three =
    e ∙ λ i. ordering_then
    (ordering_then (nat_cmp (own.first_is i) (others.first_is i))
    (nat_cmp (own.second_is i) (others.second_is i)))
    (nat_cmp (own.third_is i) (others.third_is i)) in
    let whole : text_cmp xs ys ≡ ordering_then (ordering_then (ordering_then one two) three) rest =
    by_front 7 xs ys own.bytes others.bytes
    ∙ ap (ordering_then one) (by_front 7 xs' ys' own' others'
    ∙ ap (ordering_then two) (by_front 7 (drop 7 xs') (drop 7 ys') (bytes_behind 7 xs' own')
    (bytes_behind 7 ys' others')))
    ∙ then_assoc one two (ordering_then three rest)
    ∙ then_assoc (ordering_then one two) three rest in
    let texts : r ≡ text_cmp xs ys = sym (decided r rest n) ∙ ap (λ o. ordering_then o rest) words
    ∙ sym whole in
    cmp_normal xs ys xs ys r own.normal others.normal refl refl texts

pub front_more : (text : List ℕ) (k word d : ℕ) → word ≡ front_length text k
    → d ≡ digit (drop k text) → word * 512 + d ≡ front_length text (k + 1)
front_more text k word d h g = rw (add-one, h, g) refl
