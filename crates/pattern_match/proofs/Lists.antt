-- Lists that a loop changes in place or fills.
use Rattle.std.proofs.Common.{◌≡◌, sym, ◌∙◌, ap, ℕ, ◌+◌, ◌<◌, List, ◌++◌, length, take, drop, set}
use Rattle.std.proofs.Common.{get_or, map, arith, length-append, length-drop, length-take}
use Rattle.std.proofs.lemmas.List.{get_or_default, length-map}
use Rattle.std.proofs.lemmas.List.Edits.{map_over_more}
use Rattle.pattern_match.specs.Automaton.{up}

long_as : (f : ℕ → ℕ) (xs ys : List ℕ) (i : ℕ) → ys ≡ map f (take i xs) ++ drop i xs
    → length ys ≡ length xs
long_as f xs ys i e = ap length e ∙ simp (length-append, length-map, length-take, length-drop)
    (omega arith)

pub numbers_more : (by : ℕ) (xs ys : List ℕ) (i v : ℕ) → i < length xs → ys ≡ up by (take i xs)
    ++ drop i xs → v ≡ get_or ys i 0 + by → set ys i v ≡ up by (take (i + 1) xs) ++ drop (i + 1) xs
numbers_more by xs ys i v l e r =
    let n : length ys ≡ length xs = long_as (λ n. n + by) xs ys i e in
    rw r (map_over_more (λ n. n + by) xs ys i (get_or ys i 0) l e
    (get_or_default ys i 0 (get_or ys i 0) (omega arith)))

pub each_more : {X : Type 0} (f : X → X) (xs ys : List X) (i : ℕ) (x v : X) → i < length xs
    → ys ≡ map f (take i xs) ++ drop i xs → x ≡ get_or ys i x → v ≡ f (get_or ys i x)
    → set ys i v ≡ map f (take (i + 1) xs) ++ drop (i + 1) xs
each_more f xs ys i x v l e r w = let q : v ≡ f x = w ∙ ap f (sym r) in
    rw q (map_over_more f xs ys i x l e r)
