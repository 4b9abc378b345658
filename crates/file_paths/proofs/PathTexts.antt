-- Comparisons of paths are comparisons of their texts.
use Rattle.std.proofs.Common.{◌≡◌, refl, sym, ap, ◌∙◌, ℕ, ◌==◌, ◌+◌, Bool, true, false, List, []}
use Rattle.std.proofs.Common.{◌∷◌, ◌++◌, length, take, drop, arith, zero, suc, min, ◌<◌, ◌≤◌}
use Rattle.std.proofs.Common.{Option, Some, None, length-take}
use Rattle.std.proofs.lemmas.Bool.Decides.{nat_tests}
use Rattle.std.specs.Cmp.{first_so, second_so}
use Rattle.std.specs.Cmp.Lexicographic.{slice_cmp, pointwise, bytes_decides}
use Rattle.std.specs.Ordering.{nat_cmp, ordering_then}
use Rattle.std.specs.declared.cmp.Ordering.{Ordering}
use Rattle.std.specs.declared.cmp.Ordering.TheVariants.{Less, Equal, Greater}
use Rattle.std.specs.Prelude.{IfNone, not, ◌&&◌, nat_eq, nat_lt, if◌then◌else◌, Ok, Err}
use Rattle.std.specs.List.{list_all, list_any}
use Rattle.label_base.specs.Text.{same_bytes}
use Rattle.file_paths.specs.Path.{Path, path_text, path_read, is_dot_part, is_name, is_name_byte}
use Rattle.file_paths.specs.Path.{are_names, with_slashes, at_or_below, path_cmp, path_names}
use Rattle.file_paths.specs.PathText.{byte_rank, text_cmp, text_at_or_below, IsNormal}
use Rattle.file_paths.proofs.PathLemmas.{not_slash, name_bytes, names_back}
use Rattle.file_paths.specs.declared.path_fault.PathWhy.TheVariants.{Empty, PathTooLong, HasNul}
use Rattle.file_paths.specs.declared.path_fault.PathWhy.TheVariants.{NotAbsolute, DotPart}

slash_other : (b : ℕ) → is_name_byte b ≡ true → nat_eq 47 b ≡ false
slash_other b h = let e : nat_eq b 47 ≡ false = not_slash b h in grind (arith, nat_tests)

and_after : (v p e s t : Bool) → (p && e) ≡ (s && t) → ((v && p) && e) ≡ ((v && s) && t)
and_after true p e s t h = h
and_after false p e s t h = refl

and_apart : (v s t : Bool) (u : Bool) → u ≡ (s && t) → (v && u) ≡ ((v && s) && t)
and_apart true s t u h = h
and_apart false s t u h = refl

-- ---- a front of the names

below_names : (n m : List ℕ) (ns ms : Path) → list_all is_name_byte n ≡ true
    → list_all is_name_byte m ≡ true
    → text_at_or_below (n ++ with_slashes ns) (m ++ with_slashes ms)
    ≡ (same_bytes m n && text_at_or_below (with_slashes ns) (with_slashes ms))
below_names [] [] ns ms h g = refl
below_names [] (b ∷ bs) [] ms h g = refl
below_names [] (b ∷ bs) (k ∷ ks) ms h g = rw (not_slash b (first_so (is_name_byte b) _ g)) refl
below_names (a ∷ cs) [] ns [] h g = rw (not_slash a (first_so (is_name_byte a) _ h)) refl
below_names (a ∷ cs) [] ns (k ∷ ks) h g = rw (slash_other a (first_so (is_name_byte a) _ h)) refl
below_names (a ∷ cs) (b ∷ bs) ns ms h g =
    and_after (nat_eq b a) _ _ (same_bytes bs cs)
    (text_at_or_below (with_slashes ns) (with_slashes ms))
    (below_names cs bs ns ms (second_so (is_name_byte a) _ h) (second_so (is_name_byte b) _ g))

pub below_texts : (ns ms : Path) → are_names ns ≡ true → are_names ms ≡ true
    → at_or_below ns ms ≡ text_at_or_below (with_slashes ns) (with_slashes ms)
below_texts [] [] h g = refl
below_texts (n ∷ ns) [] h g = refl
below_texts [] (m ∷ ms) h g = refl
below_texts (n ∷ ns) (m ∷ ms) h g =
    ap (λ v. same_bytes m n && v)
    (below_texts ns ms (second_so (is_name n) _ h) (second_so (is_name m) _ g))
    ∙ sym (below_names n m ns ms (name_bytes n (first_so (is_name n) _ h))
    (name_bytes m (first_so (is_name m) _ g)))

-- ---- the same names

same_names : (n m : List ℕ) (ns ms : Path) → list_all is_name_byte n ≡ true
    → list_all is_name_byte m ≡ true
    → same_bytes (n ++ with_slashes ns) (m ++ with_slashes ms)
    ≡ (same_bytes n m && same_bytes (with_slashes ns) (with_slashes ms))
same_names [] [] ns ms h g = refl
same_names [] (b ∷ bs) [] ms h g = refl
same_names [] (b ∷ bs) (k ∷ ks) ms h g = rw (slash_other b (first_so (is_name_byte b) _ g)) refl
same_names (a ∷ cs) [] ns [] h g = refl
same_names (a ∷ cs) [] ns (k ∷ ks) h g = rw (not_slash a (first_so (is_name_byte a) _ h)) refl
same_names (a ∷ cs) (b ∷ bs) ns ms h g =
    and_apart (nat_eq a b) (same_bytes cs bs) (same_bytes (with_slashes ns) (with_slashes ms)) _
    (same_names cs bs ns ms (second_so (is_name_byte a) _ h) (second_so (is_name_byte b) _ g))

pub same_texts : (ns ms : Path) → are_names ns ≡ true → are_names ms ≡ true
    → pointwise same_bytes ns ms ≡ same_bytes (with_slashes ns) (with_slashes ms)
same_texts [] [] h g = refl
same_texts (n ∷ ns) [] h g = refl
same_texts [] (m ∷ ms) h g = refl
same_texts (n ∷ ns) (m ∷ ms) h g =
    ap (λ v. same_bytes n m && v)
    (same_texts ns ms (second_so (is_name n) _ h) (second_so (is_name m) _ g))
    ∙ sym (same_names n m ns ms (name_bytes n (first_so (is_name n) _ h))
    (name_bytes m (first_so (is_name m) _ g)))

-- ---- the order

rank_other : (b : ℕ) → is_name_byte b ≡ true → byte_rank b ≡ b + 1
rank_other b h = rw (not_slash b h) refl

pub cmp_more : (a b : ℕ) → nat_cmp (a + 1) (b + 1) ≡ nat_cmp a b
cmp_more a b = grind (arith, nat_tests)

pub cmp_zero_left : (b : ℕ) → nat_cmp 0 (b + 1) ≡ Less
cmp_zero_left b = grind (arith, nat_tests)

pub cmp_zero_right : (a : ℕ) → nat_cmp (a + 1) 0 ≡ Greater
cmp_zero_right a = grind (arith, nat_tests)

then_after : (o p q u : Ordering) → u ≡ ordering_then p q
    → ordering_then o u ≡ ordering_then (ordering_then o p) q
then_after Less p q u h = refl
then_after Equal p q u h = h
then_after Greater p q u h = refl

cmp_names : (n m : List ℕ) (ns ms : Path) → list_all is_name_byte n ≡ true → list_all is_name_byte m
    ≡ true
    → text_cmp (n ++ with_slashes ns) (m ++ with_slashes ms) ≡ ordering_then (slice_cmp nat_cmp n m)
    (text_cmp (with_slashes ns) (with_slashes ms))
cmp_names [] [] ns ms h g = refl
cmp_names [] (b ∷ bs) [] ms h g = refl
cmp_names [] (b ∷ bs) (k ∷ ks) ms h g =
    rw (rank_other b (first_so (is_name_byte b) _ g), cmp_zero_left b) refl
cmp_names (a ∷ cs) [] ns [] h g = refl
cmp_names (a ∷ cs) [] ns (k ∷ ks) h g =
    rw (rank_other a (first_so (is_name_byte a) _ h), cmp_zero_right a) refl
cmp_names (a ∷ cs) (b ∷ bs) ns ms h g =
    let ra = rank_other a (first_so (is_name_byte a) _ h) in
    let rb = rank_other b (first_so (is_name_byte b) _ g) in
    let o : nat_cmp (byte_rank a) (byte_rank b) ≡ nat_cmp a b = ap (λ x. nat_cmp x (byte_rank b)) ra
    ∙ ap (λ y. nat_cmp (a + 1) y) rb ∙ cmp_more a b in
    ap (λ r. ordering_then r (text_cmp (cs ++ with_slashes ns) (bs ++ with_slashes ms))) o
    ∙ then_after (nat_cmp a b) (slice_cmp nat_cmp cs bs)
    (text_cmp (with_slashes ns) (with_slashes ms)) _
    (cmp_names cs bs ns ms (second_so (is_name_byte a) _ h) (second_so (is_name_byte b) _ g))

pub cmp_by_texts : (ns ms : Path) → are_names ns ≡ true → are_names ms ≡ true
    → path_cmp ns ms ≡ text_cmp (with_slashes ns) (with_slashes ms)
cmp_by_texts [] [] h g = refl
cmp_by_texts (n ∷ ns) [] h g = refl
cmp_by_texts [] (m ∷ ms) h g = refl
cmp_by_texts (n ∷ ns) (m ∷ ms) h g =
    ap (λ o. ordering_then (slice_cmp nat_cmp n m) o)
    (cmp_by_texts ns ms (second_so (is_name n) _ h) (second_so (is_name m) _ g))
    ∙ sym (cmp_names n m ns ms (name_bytes n (first_so (is_name n) _ h))
    (name_bytes m (first_so (is_name m) _ g)))

-- ---- the same of normal texts

pub below_normal : (s t a b : List ℕ) (r : Bool) → IsNormal s → IsNormal t → a ≡ s → b ≡ t
    → r ≡ text_at_or_below a b → r ≡ at_or_below (path_names s) (path_names t)
below_normal s t a b r (u, h) (v, g) p q e =
    e ∙ ap (λ x. text_at_or_below x b) (p ∙ sym u)
    ∙ ap (λ y. text_at_or_below (with_slashes (path_names s)) y) (q ∙ sym v)
    ∙ sym (below_texts (path_names s) (path_names t) h g)

pub same_normal : (s t : List ℕ) (r : Bool) → IsNormal s → IsNormal t → r ≡ same_bytes s t
    → r ≡ pointwise same_bytes (path_names s) (path_names t)
same_normal s t r (u, h) (v, g) e =
    e ∙ ap (λ x. same_bytes x t) (sym u) ∙ ap (λ y. same_bytes (with_slashes (path_names s)) y)
    (sym v) ∙ sym (same_texts (path_names s) (path_names t) h g)

pub cmp_normal : (s t a b : List ℕ) (r : Ordering) → IsNormal s → IsNormal t → a ≡ s → b ≡ t
    → r ≡ text_cmp a b → r ≡ path_cmp (path_names s) (path_names t)
cmp_normal s t a b r (u, h) (v, g) p q e =
    e ∙ ap (λ x. text_cmp x b) (p ∙ sym u) ∙ ap (λ y. text_cmp (with_slashes (path_names s)) y)
    (q ∙ sym v) ∙ sym (cmp_by_texts (path_names s) (path_names t) h g)

-- ---- where a text ends

cmp_suc : (m n : ℕ) → nat_cmp (suc m) (suc n) ≡ nat_cmp m n
cmp_suc m n = grind (arith, nat_tests)

cmp_none_left : (n : ℕ) → nat_cmp 0 (suc n) ≡ Less
cmp_none_left n = grind (arith, nat_tests)

cmp_none_right : (n : ℕ) → nat_cmp (suc n) 0 ≡ Greater
cmp_none_right n = grind (arith, nat_tests)

-- behind the common places the lengths decide
pub cmp_ended : (xs ys : List ℕ) (i : ℕ) → i ≤ min (length xs) (length ys)
    → min (length xs) (length ys) ≤ i → text_cmp (drop i xs) (drop i ys) ≡ nat_cmp (length xs)
    (length ys)
cmp_ended [] [] zero h g = refl
cmp_ended [] (y ∷ ys) zero h g = sym (cmp_none_left (length ys))
cmp_ended (x ∷ xs) [] zero h g = sym (cmp_none_right (length xs))
cmp_ended (x ∷ xs) (y ∷ ys) zero h g = absurd (omega arith)
cmp_ended [] ys (suc i) h g = absurd (omega arith)
cmp_ended (x ∷ xs) [] (suc i) h g = absurd (omega arith)
cmp_ended (x ∷ xs) (y ∷ ys) (suc i) h g = cmp_ended xs ys i (omega arith) (omega arith)
    ∙ sym (cmp_suc (length xs) (length ys))

-- ---- the text, read again

read_as : (a b c d e : Bool) (p q : Path) → a ≡ false → b ≡ false → c ≡ false → d ≡ false
    → e ≡ false → p ≡ q
    → (if a then Err Empty else if b then Err PathTooLong else if c then Err
    HasNul else if d then Err NotAbsolute else if e then Err DotPart else Ok p) ≡ Ok q
read_as true b c d e p q ha hb hc hd he h = cc
read_as false true c d e p q ha hb hc hd he h = cc
read_as false false true d e p q ha hb hc hd he h = cc
read_as false false false true e p q ha hb hc hd he h = cc
read_as false false false false true p q ha hb hc hd he h = cc
read_as false false false false false p q ha hb hc hd he h = ap Ok h

not_nul : (v w : Bool) → (not v && not w) ≡ true → w ≡ false
not_nul true w h = cc
not_nul false true h = cc
not_nul false false h = refl

no_nul_before : (name more : List ℕ) → list_all is_name_byte name ≡ true
    → list_any (λ b. b == 0) (name ++ more) ≡ list_any (λ b. b == 0) more
no_nul_before [] more h = refl
no_nul_before (b ∷ bs) more h = rw (not_nul (b == 47) (b == 0) (first_so (is_name_byte b) _ h))
    (no_nul_before bs more (second_so (is_name_byte b) _ h))

no_nul : (names : Path) → are_names names ≡ true → list_any (λ b. b == 0) (with_slashes names)
    ≡ false
no_nul [] h = refl
no_nul (n ∷ ns) h = no_nul_before n (with_slashes ns) (name_bytes n (first_so (is_name n) _ h))
    ∙ no_nul ns (second_so (is_name n) _ h)

not_none : (n : ℕ) → nat_eq (suc n) 0 ≡ false
not_none n = grind (arith, nat_tests)

not_past : (n : ℕ) → n ≤ 4095 → nat_lt 4095 n ≡ false
not_past n h = grind (arith, nat_tests)

text_reads_back : (names : Path) → are_names names ≡ true → length (path_text names) ≤ 4095
    → list_any is_dot_part names ≡ false → path_read (path_text names) ≡ Ok names
text_reads_back [] h g d = refl
text_reads_back (n ∷ ns) h g d =
    let e = names_back (n ∷ ns) h in
    let undotted = ap (list_any is_dot_part) e ∙ d in
    read_as _ _ _ _ _ (path_names (with_slashes (n ∷ ns))) (n ∷ ns)
    (not_none (length (n ++ with_slashes ns))) (not_past _ g) (no_nul (n ∷ ns) h) refl undotted
    e

pub normal_reads_back : (text r : List ℕ) → IsNormal text → r ≡ path_text (path_names text)
    → length r ≤ 4095 → list_any is_dot_part (path_names text) ≡ false
    → path_read r ≡ Ok (path_names text)
normal_reads_back text r (t, h) e g d = rw e (text_reads_back (path_names text) h (rw (← e) g) d)

-- ---- a front in common

rank_tied : (n : ℕ) → nat_cmp n n ≡ Equal
rank_tied n = grind (arith, nat_tests)

-- the same first places decide nothing
pub cmp_behind : (n : ℕ) (xs ys : List ℕ) → take n xs ≡ take n ys → n ≤ length xs → n ≤ length ys
    → text_cmp xs ys ≡ text_cmp (drop n xs) (drop n ys)
cmp_behind zero xs ys e h g = refl
cmp_behind (suc n) [] ys e h g = absurd (omega arith)
cmp_behind (suc n) (x ∷ xs) [] e h g = absurd (omega arith)
cmp_behind (suc n) (x ∷ xs) (y ∷ ys) e h g =
    let first : x ≡ y = cc in
    let others : take n xs ≡ take n ys = cc in
    let tied : nat_cmp (byte_rank x) (byte_rank y) ≡ Equal =
    ap (λ z. nat_cmp (byte_rank x) (byte_rank z)) (sym first) ∙ rank_tied (byte_rank x) in
    ap (λ o. ordering_then o (text_cmp xs ys)) tied ∙ cmp_behind n xs ys others (omega arith)
    (omega arith)

pub cmp_behind_same : (n : ℕ) (xs ys front other rest more : List ℕ)
    → true ≡ pointwise nat_eq front other → front ≡ take n xs → other ≡ take n ys → rest ≡ drop n xs
    → more ≡ drop n ys
    → n ≤ length xs → n ≤ length ys → text_cmp xs ys ≡ text_cmp rest more
cmp_behind_same n xs ys front other rest more t f o r m h g =
    let e : front ≡ other = (bytes_decides front other).0 (sym t) in
    cmp_behind n xs ys (sym f ∙ e ∙ o) h g ∙ ap (λ l. text_cmp l (drop n ys)) (sym r)
    ∙ ap (λ l. text_cmp rest l) (sym m)

pub none_given : {X : Type 0} (r : Option X) (P : Type 0) → P → IfNone r P
none_given None P p = p
none_given (Some x) P p = tt

-- the same front can't be cut from a text that is too short for it
pub short_too : (n : ℕ) (xs ys : List ℕ) → length ys < n → take n xs ≡ take n ys → length xs < n
short_too n xs ys h e = let long : length (take n xs) ≡ length (take n ys) = ap length e in
    omega (arith, length-take {A = ℕ})
