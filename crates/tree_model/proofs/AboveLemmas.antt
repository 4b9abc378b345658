-- Paths at or below others, and the order of paths.
use Rattle.std.proofs.Common.{◌≡◌, ◌∙◌, ap, sym, refl, subst, ◌<◌, true, [], ◌∷◌, length, arith}
use Rattle.std.specs.Cmp.{IsTotalOrder, first_so, second_so}
use Rattle.std.specs.Cmp.Lexicographic.{bytes_decides, nat_list_cmp_total, slice_cmp, texts_ties}
use Rattle.std.specs.Ordering.{is_eq, nat_cmp, ordering_then, ordering_reverse}
use Rattle.std.specs.declared.cmp.Ordering.{Ordering}
use Rattle.std.specs.declared.cmp.Ordering.TheVariants.{Less, Equal, Greater}
use Rattle.std.proofs.lemmas.Cmp.{tied_itself}
use Rattle.std.proofs.lemmas.Bool.{and_from}
use Rattle.label_base.specs.Text.{same_bytes}
use Rattle.file_paths.specs.Path.{Path, at_or_below, path_cmp}

name_total : IsTotalOrder (slice_cmp nat_cmp)
name_total = nat_list_cmp_total

pub below_itself : (p : Path) → at_or_below p p ≡ true
below_itself [] = refl
below_itself (n ∷ ns) = and_from (same_bytes n n) (at_or_below ns ns) ((bytes_decides n n).1 refl)
    (below_itself ns)

pub same_head : (n m : _) (ns ms : Path) → at_or_below (n ∷ ns) (m ∷ ms) ≡ true → m ≡ n
same_head n m ns ms h = (bytes_decides m n).0 (first_so (same_bytes m n) (at_or_below ns ms) h)

pub rest_below : (n m : _) (ns ms : Path) → at_or_below (n ∷ ns) (m ∷ ms) ≡ true
    → at_or_below ns ms ≡ true
rest_below n m ns ms h = second_so (same_bytes m n) (at_or_below ns ms) h

-- what is at or below a path is at or below all that are above it
pub below_chain : (z y x : Path) → at_or_below z y ≡ true → at_or_below y x ≡ true
    → at_or_below z x ≡ true
below_chain z y [] h k = refl
below_chain z [] (a ∷ x) h k = cc
below_chain [] (b ∷ y) (a ∷ x) h k = cc
below_chain (c ∷ z) (b ∷ y) (a ∷ x) h k =
    and_from (same_bytes a c) (at_or_below z x)
    ((bytes_decides a c).1 (same_head b a y x k ∙ same_head c b z y h))
    (below_chain z y x (rest_below c b z y h) (rest_below b a y x k))

then_equal : (o r : Ordering) → o ≡ Equal → ordering_then o r ≡ r
then_equal o r h = ap (λ q. ordering_then q r) h

-- paths that begin with the same name are ordered by the rest
same_first : (n m : _) (ns ms : Path) → n ≡ m → path_cmp (n ∷ ns) (m ∷ ms) ≡ path_cmp ns ms
same_first n m ns ms e =
    then_equal (slice_cmp nat_cmp n m) (path_cmp ns ms)
    (subst (λ k. slice_cmp nat_cmp n k ≡ Equal) e (tied_itself name_total n))

-- what is at or below a path is not before it
pub not_before : (p top : Path) → at_or_below p top ≡ true → path_cmp p top ≡ Less → ⊥
not_before [] [] h l = cc
not_before (n ∷ ns) [] h l = cc
not_before [] (m ∷ ms) h l = cc
not_before (n ∷ ns) (m ∷ ms) h l =
    not_before ns ms (rest_below n m ns ms h)
    (sym (same_first n m ns ms (sym (same_head n m ns ms h))) ∙ l)

-- a path at or below another, and behind it, has more names
pub longer : (p top : Path) → at_or_below p top ≡ true → path_cmp top p ≡ Less
    → length top < length p
longer [] [] h l = cc
longer (n ∷ ns) [] h l = omega arith
longer [] (m ∷ ms) h l = cc
longer (n ∷ ns) (m ∷ ms) h l =
    let more = longer ns ms (rest_below n m ns ms h)
    (sym (same_first m n ms ns (same_head n m ns ms h)) ∙ l) in omega (arith, more)

tied_name : (n m : _) → slice_cmp nat_cmp n m ≡ Equal → n ≡ m
tied_name n m h = (bytes_decides n m).0 (texts_ties n m ∙ ap is_eq h)

-- the first names of paths in order, where the first and the last path begin with the same name
middle : (o p r s : Ordering) → p ≡ ordering_reverse o → ordering_then o r ≡ Less
    → ordering_then p s ≡ Less → (o ≡ Equal) × (r ≡ Less) × (s ≡ Less)
middle Less p r s e h k = absurd (cc)
middle Equal p r s e h k = (refl, h, sym (ap (λ q. ordering_then q s) e) ∙ k)
middle Greater p r s e h k = cc

-- what stands between a path and one at or below it is at or below it
pub between : (x y z : Path) → at_or_below z x ≡ true → path_cmp x y ≡ Less → path_cmp y z ≡ Less
    → at_or_below y x ≡ true
between [] y z h k l = refl
between (a ∷ x) [] z h k l = cc
between (a ∷ x) (b ∷ y) [] h k l = cc
between (a ∷ x) (b ∷ y) (c ∷ z) h k l =
    let same = same_head c a z x h in
    let parts = middle (slice_cmp nat_cmp a b) (slice_cmp nat_cmp b c) (path_cmp x y) (path_cmp y z)
    (ap (slice_cmp nat_cmp b) (sym same) ∙ name_total.antisymm b a) k l in
    and_from (same_bytes a b) (at_or_below y x) ((bytes_decides a b).1 (tied_name a b parts.0))
    (between x y z (rest_below c a z x h) parts.1 parts.2)
