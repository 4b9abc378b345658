-- The language of a pattern: the texts that it matches from their first byte to their last.
use Rattle.std.specs.Prelude.{◌≡◌, ℕ, zero, suc, ◌+◌, ◌-◌, ◌≤◌, ◌==◌, Bool, true, false, ◌||◌, ◌&&◌}
use Rattle.std.specs.Prelude.{List, [], ◌∷◌, ◌++◌, length, Option, Some, None, ◌⊎◌}
use Rattle.std.specs.List.{list_any}
use Rattle.pattern_syntax.specs.Tree.{Tree, Set, Nothing, Both, Either, Repeat}

-- k texts of a language, joined
abbrev pub Joined : (List ℕ → Type 0) → ℕ → List ℕ → Type 0
Joined P zero text = text ≡ []
Joined P (suc k) text = (front rest : List ℕ) × (text ≡ front ++ rest) × P front × Joined P k rest

-- without an upper number there is no greatest count
abbrev pub AtMost : ℕ → Option ℕ → Type 0
AtMost k None = Unit {0}
AtMost k (Some n) = k ≤ n

-- the text is in the language
abbrev pub In : Tree → List ℕ → Type 0
In (Set bytes) text = (b : ℕ) × (text ≡ b ∷ []) × (list_any (λ c. c == b) bytes ≡ true)
In Nothing text = text ≡ []
In (Both first second) text =
    (front rest : List ℕ) × (text ≡ front ++ rest) × In first front × In second rest
In (Either left right) text = In left text ⊎ In right text
In (Repeat least most piece) text = (k : ℕ) × (least ≤ k) × AtMost k most × Joined (In piece) k text

-- some text of the language begins with this one
abbrev pub Opens : Tree → List ℕ → Type 0
Opens tree text = (rest : List ℕ) × In tree (text ++ rest)

-- whether the text can be cut in two so that both parts pass; front is what was passed over
abbrev pub some_cut : (List ℕ → Bool) → (List ℕ → Bool) → List ℕ → List ℕ → Bool
some_cut p q front [] = p front && q []
some_cut p q front (b ∷ bs) = (p front && q (b ∷ bs)) || some_cut p q (front ++ b ∷ []) bs

abbrev pub is_joined : (List ℕ → Bool) → ℕ → List ℕ → Bool
is_joined p zero [] = true
is_joined p zero (b ∷ bs) = false
is_joined p (suc k) text = some_cut p (is_joined p k) [] text

-- whether a number from least on, of so many numbers, passes
abbrev pub some_count : (ℕ → Bool) → ℕ → ℕ → Bool
some_count p least zero = false
some_count p least (suc more) = p least || some_count p (least + 1) more

-- how many counts of pieces matter: beyond least and one for each byte, more pieces add empty ones
-- alone
abbrev pub counts_from : ℕ → Option ℕ → List ℕ → ℕ
counts_from least None text = length text + 1
counts_from least (Some most) text = (most + 1) - least

-- the test of membership, by trying every cut
unfoldable pub holds : Tree → List ℕ → Bool
holds (Set bytes) [] = false
holds (Set bytes) (b ∷ []) = list_any (λ c. c == b) bytes
holds (Set bytes) (b ∷ c ∷ bs) = false
holds Nothing [] = true
holds Nothing (b ∷ bs) = false
holds (Both first second) text = some_cut (holds first) (holds second) [] text
holds (Either left right) text = holds left text || holds right text
holds (Repeat least most piece) text =
    some_count (λ k. is_joined (holds piece) k text) least (counts_from least most text)
