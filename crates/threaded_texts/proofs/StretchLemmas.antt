-- A row of texts, cut in two.
use Rattle.std.proofs.Common.{◌≡◌, ◌∙◌, sym, ap, ℕ, zero, suc, ◌+◌, List, ◌++◌, arith, append-nil}
use Rattle.std.proofs.Common.{append_assoc}
use Rattle.threaded_texts.specs.Stretch.{stretch}

-- so many texts, and others behind them
pub stretch_more : (text : ℕ → List ℕ) (first m n : ℕ)
    → stretch text first (m + n) ≡ stretch text first m ++ stretch text (first + m) n
stretch_more text first m zero =
    let none : m + 0 ≡ m = omega arith in
    ap (stretch text first) none ∙ sym (append-nil (stretch text first m))
stretch_more text first m (suc n) =
    let one : m + suc n ≡ suc (m + n) = omega arith in
    let place : first + (m + n) ≡ first + m + n = omega arith in
    let front = stretch text first m in
    let rest = stretch text (first + m) n in
    ap (stretch text first) one
    ∙ ap (λ t. t ++ text (first + (m + n))) (stretch_more text first m n)
    ∙ append_assoc front rest (text (first + (m + n)))
    ∙ ap (λ k. front ++ (rest ++ text k)) place

-- one text more
pub text_more : (text : ℕ → List ℕ) (first n : ℕ) (old before now : List ℕ)
    → before ≡ old ++ stretch text first n → now ≡ before ++ text (first + n)
    → now ≡ old ++ stretch text first (n + 1)
text_more text first n old before now so_far added =
    let one : n + 1 ≡ suc n = omega arith in
    added ∙ ap (λ t. t ++ text (first + n)) so_far
    ∙ append_assoc old (stretch text first n) (text (first + n))
    ∙ ap (λ k. old ++ stretch text first k) (sym one)

-- two parts
pub parted : (text : ℕ → List ℕ) (first front back count : ℕ) (to ahead behind made : List ℕ)
    → front + back ≡ count → ahead ≡ to ++ stretch text first front
    → behind ≡ stretch text (first + front) back → made ≡ ahead ++ behind
    → made ≡ to ++ stretch text first count
parted text first front back count to ahead behind made all a b m =
    m ∙ ap (λ t. t ++ behind) a ∙ append_assoc to (stretch text first front) behind
    ∙ ap (λ t. to ++ (stretch text first front ++ t)) b
    ∙ ap (λ t. to ++ t) (sym (stretch_more text first front back))
    ∙ ap (λ n. to ++ stretch text first n) all
