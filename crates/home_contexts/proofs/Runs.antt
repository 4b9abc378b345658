-- Bytes that stand for themselves, all at once.
use Rattle.std.proofs.Common.{◌≡◌, ◌∙◌, sym, refl, ap, ℕ, ◌+◌, ◌-◌, ◌<◌, ◌≤◌, ◌==◌, Bool, true}
use Rattle.std.proofs.Common.{false, List, [], ◌∷◌, ◌++◌, length, map, take, drop, get_or}
use Rattle.std.proofs.Common.{append_assoc, length-append, arith}
use Rattle.std.specs.Prelude.{◌&&◌, not, None}
use Rattle.std.specs.List.{flat_map}
use Rattle.std.specs.Cmp.{first_so, second_so}
use Rattle.std.proofs.lemmas.Bool.{ne_eqb}
use Rattle.pattern_syntax.proofs.PartsLemmas.{same_byte}
use Rattle.std.proofs.lemmas.Grind.{flat_map-append}
use Rattle.std.proofs.lemmas.List.{drop_more, map-append, take_all, take_more, length-drop}
use Rattle.home_contexts.specs.Making.{begins_none}
use Rattle.home_contexts.specs.User.{UserValue}
use Rattle.home_contexts.specs.Words.{begins_with, filled, template_text, template_pieces}
use Rattle.home_contexts.specs.Words.{template_word_at}
use Rattle.home_contexts.specs.declared.word.FieldPiece.{FieldPiece}
use Rattle.home_contexts.specs.declared.word.FieldPiece.TheVariants.{Byte}
use Rattle.home_contexts.specs.declared.word.Word.{Word}
use Rattle.home_contexts.specs.declared.word.Word.TheVariants.{HomeDir, HomeRoot, Role, User}
use Rattle.home_contexts.proofs.PieceLemmas.{byte_first}

abbrev first_byte : Word → ℕ
first_byte HomeRoot = 72
first_byte HomeDir = 72
first_byte Role = 82
first_byte User = 85

apart : (word : Word) (b : ℕ) (bs : List ℕ) → (first_byte word == b) ≡ false → begins_with word (b ∷
    bs) ≡ false
apart HomeRoot b bs h = rw h refl
apart HomeDir b bs h = rw h refl
apart Role b bs h = rw h refl
apart User b bs h = rw h refl

none_first : (a b : ℕ) → not (b == a) ≡ true → (a == b) ≡ false
none_first a b h = ne_eqb a b (λ e. let f : (b == a) ≡ true = ap (λ n. b == n) e ∙ same_byte b in
    cc)

no_word : (b : ℕ) (bs : List ℕ) → begins_none b ≡ true → template_word_at (b ∷ bs) ≡ None
unfolding template_word_at
no_word b bs h =
    let others = second_so (not (b == 72)) (not (b == 82) && not (b == 85)) h in
    let home = none_first 72 b (first_so (not (b == 72)) (not (b == 82) && not (b == 85)) h) in
    let role = none_first 82 b (first_so (not (b == 82)) (not (b == 85)) others) in
    let user = none_first 85 b (second_so (not (b == 82)) (not (b == 85)) others) in
    rw (
      apart HomeRoot b bs home,
      apart HomeDir b bs home,
      apart Role b bs role,
      apart User b bs
          user,
    ) refl

-- one byte more
pub run_more : (field : List ℕ) (at d : ℕ) → at < length field → begins_none (get_or field at d) ≡
    true → template_pieces field ≡ map Byte (take at field) ++ template_pieces (drop at field)
    → template_pieces field ≡ map Byte (take (at + 1) field) ++ template_pieces
    (drop (at + 1) field)
run_more field at d within none h =
    let b = get_or field at d in
    let step : template_pieces (drop at field) ≡ Byte b ∷ template_pieces (drop (at + 1) field) =
    ap template_pieces
    (drop_more field at d within) ∙ byte_first (b ∷ drop (at + 1) field) None (sym (no_word b (drop
    (at + 1) field) none)) refl (omega arith) in
    h ∙ ap (λ ps. map Byte (take at field) ++ ps) step
    ∙ sym (append_assoc (map Byte (take at field)) (Byte b ∷ [])
    (template_pieces (drop (at + 1) field)))
    ∙ ap (λ ps. ps ++ template_pieces (drop (at + 1) field))
    (sym (map-append Byte (take at field) (b ∷
    [])) ∙ ap (map Byte) (sym (take_more field at d within)))

pub run_split : (field : List ℕ) (n : ℕ) → n ≤ length field → template_pieces field
    ≡ map Byte (take n
    field) ++ template_pieces (drop n field)
    → template_pieces field ≡ map Byte (take n field) ++ template_pieces
    (take (length field - n) (drop n
    field))
run_split field n within h = rw (take_all (length field - n) (drop n field) (omega (
  arith,
  length-drop n field,
))) h

-- ---- what is written for them

bytes_filled : (in_pattern : Bool) (user : UserValue) (run : List ℕ) → flat_map (template_text
    in_pattern user) (map Byte run) ≡ run
bytes_filled in_pattern user [] = refl
bytes_filled in_pattern user (b ∷ bs) = ap (λ rest. b ∷ rest) (bytes_filled in_pattern user bs)

pub run_filled : (in_pattern : Bool) (user : UserValue) (rest run behind : List ℕ)
    → template_pieces rest
    ≡ map Byte run ++ template_pieces behind → filled in_pattern user rest ≡ run
    ++ filled in_pattern
    user behind
run_filled in_pattern user rest run behind h =
    ap (flat_map (template_text in_pattern user)) h
    ∙ flat_map-append (template_text in_pattern user) (map
    Byte run) (template_pieces behind)
    ∙ ap (λ text. text ++ filled in_pattern user behind) (bytes_filled in_pattern user run)

piece_filled : (in_pattern : Bool) (user : UserValue) (left rest : List ℕ) (piece : FieldPiece) →
    template_pieces left ≡ piece ∷ template_pieces rest → filled in_pattern user left
    ≡ template_text
    in_pattern user piece ++ filled in_pattern user rest
piece_filled in_pattern user left rest piece h = ap (flat_map (template_text in_pattern user)) h

pub filled_more : (in_pattern : Bool) (user : UserValue) (left rest run behind : List ℕ) (piece :
    FieldPiece) → template_pieces left ≡ piece ∷ template_pieces rest → template_pieces rest
    ≡ map Byte run ++
    template_pieces behind
    → filled in_pattern user left ≡ template_text in_pattern user piece ++ (run ++ filled in_pattern
    user behind)
filled_more in_pattern user left rest run behind piece h k = piece_filled in_pattern user left rest
    piece h ∙ ap (λ text. template_text in_pattern user piece ++ text) (run_filled in_pattern user
    rest run behind k)

pub text_more : (in_pattern : Bool) (user : UserValue) (left rest run behind to to2 to3 all : List
    ℕ) (piece : FieldPiece) → template_pieces left ≡ piece ∷ template_pieces rest
    → template_pieces rest ≡ map Byte run ++ template_pieces behind
    → to2 ≡ to ++ template_text in_pattern user
    piece → to3 ≡ to2 ++ run → to ++ filled in_pattern user left ≡ all → to3 ++ filled
    in_pattern user behind ≡ all
text_more in_pattern user left rest run behind to to2 to3 all piece h k first second whole =
    let text = template_text in_pattern user piece in
    let end = filled in_pattern user behind in
    ap (λ t. t ++ end) (second ∙ ap (λ t. t ++ run) first) ∙ append_assoc (to ++ text) run end ∙
    append_assoc to text (run ++ end)
    ∙ ap (λ t. to ++ t) (sym (filled_more in_pattern user left rest run behind piece h k)) ∙ whole

pub length_more : (in_pattern : Bool) (user : UserValue) (left rest run behind : List ℕ) (piece :
    FieldPiece) → template_pieces left ≡ piece ∷ template_pieces rest → template_pieces rest
    ≡ map Byte run ++
    template_pieces behind
    → length (filled in_pattern user left)
    ≡ length (template_text in_pattern user piece) + (length run
    + length (filled in_pattern user behind))
length_more in_pattern user left rest run behind piece h k =
    ap length (filled_more in_pattern user left rest run behind piece h k)
    ∙ length-append (template_text in_pattern user piece) (run ++ filled in_pattern user behind)
    ∙ ap (λ n. length (template_text in_pattern user piece) + n)
    (length-append run (filled in_pattern
    user behind))
