-- The first piece of a field and the pieces behind it.
use Rattle.std.proofs.Common.{◌≡◌, ◌∙◌, sym, refl, ap, subst, ℕ, zero, suc, ◌-◌, ◌<◌, ◌≤◌, Bool}
use Rattle.std.proofs.Common.{true, false, cond, nat_eq, List, [], ◌∷◌, length, take, drop, get_or}
use Rattle.std.proofs.Common.{arith}
use Rattle.std.specs.Prelude.{Option, Some, None}
use Rattle.std.specs.Cmp.{second_so}
use Rattle.std.specs.Cmp.Lexicographic.{pointwise}
use Rattle.std.proofs.lemmas.Bool.{false≢true}
use Rattle.std.proofs.lemmas.List.{length-drop, length-take, take_all}
use Rattle.home_contexts.specs.Words.{begins_with, pieces_from, template_pieces, piece_then}
use Rattle.home_contexts.specs.Words.{template_word_at, word_text}
use Rattle.home_contexts.specs.declared.word.FieldPiece.{FieldPiece}
use Rattle.home_contexts.specs.declared.word.FieldPiece.TheVariants.{Byte, Stands}
use Rattle.home_contexts.specs.declared.word.Word.{Word}
use Rattle.home_contexts.specs.declared.word.Word.TheVariants.{HomeDir, HomeRoot, Role, User}

skipped : (skip : ℕ) (text : List ℕ) → pieces_from skip text ≡ pieces_from 0 (drop skip text)
unfolding pieces_from
skipped zero text = refl
skipped (suc skip) [] = refl
skipped (suc skip) (b ∷ bs) = skipped skip bs

abbrev Fits : List ℕ → Option Word → Type 0
Fits text None = Unit {0}
Fits text (Some word) = length (word_text word) ≤ length text

same_length : (xs ys : List ℕ) → pointwise nat_eq xs ys ≡ true → length xs ≡ length ys
same_length [] [] h = refl
same_length [] (y ∷ ys) h = absurd (false≢true h)
same_length (x ∷ xs) [] h = absurd (false≢true h)
same_length (x ∷ xs) (y ∷ ys) h = ap suc (same_length xs ys (second_so (nat_eq x y) (pointwise
    nat_eq xs ys) h))

begun : (word : Word) (text : List ℕ) → begins_with word text ≡ true → length (word_text word) ≤
    length text
begun word text h =
    let same = same_length (word_text word) (take (length (word_text word)) text) h in
    let short = length-take (length (word_text word)) text in
    omega (arith, same, short)

chosen : (word : Word) (text : List ℕ) (other : Option Word) (v : Bool) → begins_with word text ≡ v
    → Fits text other → Fits text (cond v (Some word) other)
chosen word text other true e h = begun word text e
chosen word text other false e h = h

abbrev user_at : List ℕ → Option Word
user_at text = cond (begins_with User text) (Some User) None

abbrev role_at : List ℕ → Option Word
role_at text = cond (begins_with Role text) (Some Role) (user_at text)

abbrev home_at : List ℕ → Option Word
home_at text = cond (begins_with HomeDir text) (Some HomeDir) (role_at text)

word_fits : (text : List ℕ) → Fits text (template_word_at text)
unfolding template_word_at
word_fits text =
    chosen HomeRoot text (home_at text) (begins_with HomeRoot text) refl
    (chosen HomeDir text (role_at text) (begins_with HomeDir text) refl
    (chosen Role text (user_at text) (begins_with Role text) refl
    (chosen User text None (begins_with User text) refl tt)))

found_fits : (text : List ℕ) (found : Option Word) (word : Word) → found ≡ template_word_at text
    → found ≡
    Some word → length (word_text word) ≤ length text
found_fits text found word e is = subst (Fits text) (sym e ∙ is) (word_fits text)

pub own_fits : (text : List ℕ) (found : Option Word) (word : Word) (own : List ℕ)
    → found ≡ template_word_at
    text → found ≡ Some word → own ≡ word_text word → length own ≤ length text
own_fits text found word own e is same = let fits = found_fits text found word e is in omega (
  arith,
  fits,
  ap length same,
)

word_longer : (word : Word) → 0 < length (word_text word)
word_longer HomeRoot = omega arith
word_longer HomeDir = omega arith
word_longer Role = omega arith
word_longer User = omega arith

pub no_pieces : (text : List ℕ) → length text < 1 → template_pieces text ≡ []
unfolding pieces_from
no_pieces [] h = refl
no_pieces (b ∷ bs) h = absurd (omega arith)

rest_of : (n : ℕ) (text : List ℕ) → take (length text - n) (drop n text) ≡ drop n text
rest_of n text = take_all (length text - n) (drop n text) (omega (arith, length-drop n text))

pub byte_first : (text : List ℕ) (found : Option Word) → found ≡ template_word_at text
    → found ≡ None → 1 ≤
    length text → template_pieces text ≡ Byte (get_or text 0 0) ∷ template_pieces (drop 1 text)
unfolding pieces_from
byte_first [] found e is h = absurd (omega arith)
byte_first (b ∷ bs) found e is h = ap (λ (found : Option Word). piece_then b found (λ skip.
    pieces_from skip bs)) (sym e ∙ is)

pub byte_next : (text : List ℕ) (found : Option Word) → found ≡ template_word_at text → found ≡ None
    → 1 ≤
    length text → template_pieces text ≡ Byte (get_or text 0 0) ∷ template_pieces
    (take (length text - 1)
    (drop 1 text))
byte_next text found e is h = rw (rest_of 1 text) (byte_first text found e is h)

behind_first : (n : ℕ) (b : ℕ) (bs : List ℕ) → 0 < n → drop (n - 1) bs ≡ drop n (b ∷ bs)
behind_first zero b bs h = absurd (omega arith)
behind_first (suc n) b bs h = let e : suc n - 1 ≡ n = omega arith in ap (λ k. drop k bs) e

word_first : (text : List ℕ) (found : Option Word) (word : Word) → found ≡ template_word_at text
    → found ≡
    Some word → 1 ≤ length text → template_pieces text ≡ Stands word ∷ template_pieces (drop (length
    (word_text word)) text)
unfolding pieces_from
word_first [] found word e is h = absurd (omega arith)
word_first (b ∷ bs) found word e is h =
    ap (λ (found : Option Word). piece_then b found (λ skip. pieces_from skip bs)) (sym e ∙ is)
    ∙ ap (λ (rest : List FieldPiece). Stands word ∷ rest) (skipped (length
    (word_text word) - 1) bs ∙ ap
    (pieces_from 0) (behind_first (length (word_text word)) b bs (word_longer word)))

pub word_next : (text : List ℕ) (found : Option Word) (word : Word) (own rest : List ℕ) → found ≡
    template_word_at text → found ≡ Some word → own ≡ word_text word → 1 ≤ length text
    → rest ≡ drop (length own) text → template_pieces text ≡ Stands word ∷ template_pieces rest
word_next text found word own rest e is same h behind =
    word_first text found word e is h ∙ ap (λ r. Stands word ∷ template_pieces r)
    (ap (λ o. drop (length
    o) text) (sym same) ∙ sym behind)

pub word_shorter : (text own rest : List ℕ) (word : Word) → own ≡ word_text word → 1 ≤ length text →
    rest ≡ drop (length own) text → length rest < length text
word_shorter text own rest word same h behind =
    let l = word_longer word in
    let d = length-drop (length own) text in
    omega (arith, ap length same, ap length behind, l, d)
