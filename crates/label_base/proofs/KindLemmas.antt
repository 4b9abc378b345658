-- No two kinds share a letter.
use Rattle.std.proofs.Common.{rules, ◌≡◌, ◌⊎◌, ℕ, ◌==◌, Bool, true, false, ◌||◌, [], ◌∷◌, Some}
use Rattle.std.proofs.Common.{refl, subst, eqb-true, inl, inr}
use Rattle.std.specs.List.{list_any}
use Rattle.label_base.specs.Kind.{has_letter, letter_kind}
use Rattle.label_base.specs.declared.kind.EntryKind.{EntryKind}
use Rattle.label_base.specs.declared.kind.EntryKind.TheVariants.{Regular, Directory, Link, Pipe}
use Rattle.label_base.specs.declared.kind.EntryKind.TheVariants.{Socket, Block, Char, Other}

left_of : (a : Bool) → (a || false) ≡ true → a ≡ true
left_of true h = refl
left_of false h = h

one : (b letter : ℕ) → list_any (λ x. x == letter) (b ∷ []) ≡ true → b ≡ letter
one b letter h = eqb-true b letter (left_of (b == letter) h)

-- where one of two letters is it
either : (a b letter : ℕ) → list_any (λ x. x == letter) (a ∷ b ∷ []) ≡ true
    → (a ≡ letter) ⊎ (b ≡ letter)
either a b letter h = search rules

pub only_letter : (kind : EntryKind) (letter : ℕ) → has_letter letter kind ≡ true
    → letter_kind letter ≡ Some kind
only_letter Regular letter h = subst (λ l. letter_kind l ≡ Some Regular) (one 102 letter h) refl
only_letter Directory letter h = subst (λ l. letter_kind l ≡ Some Directory) (one 100 letter h) refl
only_letter Link letter h = subst (λ l. letter_kind l ≡ Some Link) (one 108 letter h) refl
only_letter Pipe letter h = subst (λ l. letter_kind l ≡ Some Pipe) (one 112 letter h) refl
only_letter Socket letter h = subst (λ l. letter_kind l ≡ Some Socket) (one 115 letter h) refl
only_letter Block letter h = subst (λ l. letter_kind l ≡ Some Block) (one 98 letter h) refl
only_letter Char letter h = subst (λ l. letter_kind l ≡ Some Char) (one 99 letter h) refl
only_letter Other letter h = elim (either 68 85 letter h) [
  | inl same ↦ subst (λ l. letter_kind l ≡ Some Other) same refl
  | inr same ↦ subst (λ l. letter_kind l ≡ Some Other) same refl
]
