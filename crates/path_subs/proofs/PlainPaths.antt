-- Names that are added below a plain path.
use Rattle.std.proofs.Common.{◌≡◌, ◌∙◌, ap, sym, refl, ℕ, suc, Bool, true, false, cond, List, []}
use Rattle.std.proofs.Common.{◌∷◌, ◌++◌, length, drop, arith, append_assoc}
use Rattle.std.specs.Bool.{OnTrue}
use Rattle.std.specs.Prelude.{Option, Some, None, IfSome, filter, not, ◌&&◌, nat_lt}
use Rattle.std.specs.List.{last_or, starts_with}
use Rattle.std.specs.Cmp.Lexicographic.{nat_list_eq_equiv}
use Rattle.std.proofs.lemmas.Bool.Decides.{nat_tests}
use Rattle.std.proofs.lemmas.Bool.{or_parts}
use Rattle.std.specs.Cmp.{second_so}
use Rattle.label_base.specs.Text.{same_bytes}
use Rattle.file_paths.specs.Path.{Path, at_or_below, strictly_below}
use Rattle.path_subs.specs.Subs.{SubValue, KeepsBelow, by_last, by_sub, covering, covers, has_below}
use Rattle.path_subs.specs.Subs.{plain}

and_assoc : (a b c : Bool) → (a && (b && c)) ≡ ((a && b) && c)
and_assoc true b c = refl
and_assoc false b c = refl

-- a front in two parts
pub at_or_below_append : (path front rest : Path) → at_or_below path (front ++ rest)
    ≡ (at_or_below path front && starts_with same_bytes (drop (length front) path) rest)
at_or_below_append path [] rest = refl
at_or_below_append [] (y ∷ ys) rest = refl
at_or_below_append (x ∷ xs) (y ∷ ys) rest =
    ap (λ b. same_bytes y x && b) (at_or_below_append xs ys rest)
    ∙ and_assoc (same_bytes y x) (at_or_below xs ys) _

nat_lt-zero : (n : ℕ) → nat_lt 0 (suc n) ≡ true
nat_lt-zero n = grind (arith, nat_tests)

nat_lt-suc : (m n : ℕ) → nat_lt m n ≡ nat_lt (suc m) (suc n)
nat_lt-suc m n = grind (arith, nat_tests)

-- the same where both first parts are the same, or both are false
same_and : (a b d more less : Bool) → ((a && b) && d) ≡ false → ((b && d) ≡ false → more ≡ less)
    → (a && more) ≡ (a && less)
same_and true b d more less h f = f h
same_and false b d more less h f = refl

pub same_front : (path names source : Path) → strictly_below source path ≡ false
    → at_or_below (path ++ names) source ≡ at_or_below path source
same_front [] names [] h = refl
same_front [] names (y ∷ ys) h =
    let longer : nat_lt 0 (suc (length ys)) ≡ true = nat_lt-zero (length ys) in
    let none : nat_lt 0 (suc (length ys)) ≡ false = h in
    cc
same_front (x ∷ xs) names [] h = refl
same_front (x ∷ xs) names (y ∷ ys) h =
    same_and (same_bytes y x) (at_or_below ys xs) (nat_lt (length xs) (length ys))
    (at_or_below (xs ++ names) ys) (at_or_below xs ys)
    (rw (nat_list_eq_equiv.symm y x, nat_lt-suc (length xs) (length ys)) h)
    (λ rest. same_front xs names ys rest)

-- what stands behind a front
pub drop_front : (path source names : Path) → at_or_below path source ≡ true
    → drop (length source) (path ++ names) ≡ drop (length source) path ++ names
drop_front path [] names h = refl
drop_front [] (y ∷ ys) names h = cc
drop_front (x ∷ xs) (y ∷ ys) names h =
    drop_front xs ys names (second_so (same_bytes y x) (at_or_below xs ys) h)

same_cover : (subs : List SubValue) (path names : Path) → has_below subs path ≡ false
    → filter (covers (path ++ names)) subs ≡ filter (covers path) subs
same_cover [] path names h = refl
same_cover (sub ∷ subs) path names h =
    let below = strictly_below sub.source path in
    ap (λ b. cond b (sub ∷ filter (covers (path ++ names)) subs)
    (filter (covers (path ++ names)) subs))
    (same_front path names sub.source (or_parts below (has_below subs path) h).0)
    ∙ ap (λ kept. cond (covers path sub) (sub ∷ kept) kept)
    (same_cover subs path names (or_parts below (has_below subs path) h).1)

covers_cond : (path : Path) (o : Option SubValue) (sub : SubValue) (subs : List SubValue) (b : Bool)
    → covers path sub ≡ b → IfSome o (λ s. covers path s ≡ true)
    → ((o' : Option SubValue) → IfSome o' (λ s. covers path s ≡ true)
    → IfSome (last_or o' (filter (covers path) subs)) (λ s. covers path s ≡ true))
    → IfSome (last_or o (cond b (sub ∷ filter (covers path) subs) (filter (covers path) subs)))
    (λ s. covers path s ≡ true)
covers_cond path o sub subs true e h f = f (Some sub) e
covers_cond path o sub subs false e h f = f o h

covers_last : (path : Path) (o : Option SubValue) (subs : List SubValue)
    → IfSome o (λ s. covers path s ≡ true) → IfSome (last_or o (filter (covers path) subs))
    (λ s. covers path s ≡ true)
covers_last path o [] h = h
covers_last path o (sub ∷ subs) h = covers_cond path o sub subs (covers path sub) refl h
    (λ o' t. covers_last path o' subs t)

moved : (path names : Path) (o : Option SubValue) → IfSome o (λ s. covers path s ≡ true)
    → by_sub (path ++ names) o ≡ by_sub path o ++ names
moved path names None h = refl
moved path names (Some sub) h = ap (λ rest. sub.target ++ rest) (drop_front path sub.source names h)
    ∙ sym (append_assoc sub.target (drop (length sub.source) path) names)

by_last-append : (subs : List SubValue) (path names : Path) → has_below subs path ≡ false
    → by_last subs (path ++ names) ≡ by_last subs path ++ names
by_last-append subs path names h =
    ap (λ kept. by_sub (path ++ names) (last_or None kept)) (same_cover subs path names h)
    ∙ moved path names (covering subs path) (covers_last path None subs tt)

keeps : (first second : List SubValue) (path : Path) (a b : Bool) → has_below first path ≡ a
    → has_below second (by_last first path) ≡ b
    → OnTrue (not a && not b) (KeepsBelow first second path)
keeps first second path true b p q = tt
keeps first second path false true p q = tt
keeps first second path false false p q =
    λ names. ap (by_last second) (by_last-append first path names p)
    ∙ by_last-append second (by_last first path) names q

-- below a plain path the names stay
pub plain_keeps : (first second : List SubValue) (path : Path) (b : Bool)
    → b ≡ plain first second path → OnTrue b (KeepsBelow first second path)
plain_keeps first second path b e = rw e (keeps first second path _ _ refl refl)
