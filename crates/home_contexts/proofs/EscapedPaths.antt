-- What stands for a path in a pattern is a pattern for that path alone.
use Rattle.std.proofs.Common.{◌≡◌, ◌∙◌, sym, refl, ap, subst, ℕ, ◌+◌, ◌≤◌, ◌==◌, ◌||◌, Bool, true}
use Rattle.std.proofs.Common.{false, cond, List, [], ◌∷◌, ◌++◌, length, append_assoc, append-nil}
use Rattle.std.proofs.Common.{length-append, arith}
use Rattle.std.specs.Prelude.{◌↔◌, not, Option, Some, None, Ok}
use Rattle.std.specs.List.{list_all}
use Rattle.std.specs.Cmp.{first_so, second_so}
use Rattle.std.proofs.lemmas.Bool.{and_from, or_parts, ne_eqb, eqb-true}
use Rattle.file_paths.specs.Path.{Path, are_names, is_name, is_name_byte, path_text, with_slashes}
use Rattle.file_paths.proofs.PathLemmas.{name_bytes}
use Rattle.pattern_syntax.specs.Classes.{is_alnum, is_word_class}
use Rattle.pattern_syntax.specs.Escapes.{class_of_letter, control_of_letter, escape_at}
use Rattle.pattern_syntax.specs.Escapes.{plain_escape}
use Rattle.pattern_syntax.specs.Language.{In}
use Rattle.pattern_syntax.specs.Reading.{Reading, pattern_of, positions, reads_as, with_last}
use Rattle.pattern_syntax.specs.Tokens.{Bytes, repeat_or_byte, token_at, tokens_from}
use Rattle.pattern_syntax.specs.Tree.{Tree, Both, Nothing, Set}
use Rattle.pattern_syntax.proofs.PartsLemmas.{same_byte}
use Rattle.pattern_syntax.proofs.ReadingLemmas.{ends_whole, reads_more}
use Rattle.home_contexts.specs.Escaped.{Matches, pattern_escaped, pattern_escaped_byte, stands_bare}

-- ---- tokens

bare_apart : (b k : ℕ) → stands_bare b ≡ true → stands_bare k ≡ false → (b == k) ≡ false
bare_apart b k bare marked =
    ne_eqb b k (λ e. let t : stands_bare k ≡ true = subst (λ n. stands_bare n ≡ true) e bare in cc)

marked_apart : (b k : ℕ) → stands_bare b ≡ false → stands_bare k ≡ true → (b == k) ≡ false
marked_apart b k marked bare =
    ne_eqb b k (λ e. let f : stands_bare k ≡ false = subst (λ n. stands_bare n ≡ false) e marked in
    cc)

no_letter : (b : ℕ) → stands_bare b ≡ false → is_alnum b ≡ false
no_letter b marked =
    let words = or_parts (is_word_class b || (b == 45)) (b == 47) marked in
    let both = or_parts (is_word_class b) (b == 45) words.0 in
    (or_parts (is_alnum b) (b == 95) both.0).0

bare_token : (begins : Bool) (b : ℕ) (bs : List ℕ) → stands_bare b ≡ true → token_at begins (b ∷ bs)
    ≡ Ok (Bytes (b ∷ []), 1)
unfolding token_at repeat_or_byte
bare_token begins b bs h =
    rw (
      bare_apart b 92 h refl,
      bare_apart b 91 h refl,
      bare_apart b 40 h refl,
      bare_apart b 41 h refl,
      bare_apart b 124 h refl,
      bare_apart b 94 h refl,
      bare_apart b 36 h refl,
      bare_apart b 42 h refl,
      bare_apart b 43 h refl,
      bare_apart b 63 h refl,
      bare_apart b 123 h refl,
      bare_apart b 46 h refl,
      bare_apart b 0 h refl,
    ) refl

marked_token : (begins : Bool) (b : ℕ) (bs : List ℕ) → stands_bare b ≡ false → (b == 0) ≡ false →
    token_at begins (92 ∷ b ∷ bs) ≡ Ok (Bytes (b ∷ []), 2)
unfolding token_at escape_at class_of_letter control_of_letter plain_escape
marked_token begins b bs h z =
    rw (
      marked_apart b 120 h refl,
      marked_apart b 100 h refl,
      marked_apart b 119 h refl,
      marked_apart b 115 h refl,
      marked_apart b 68 h refl,
      marked_apart b 87 h refl,
      marked_apart b 83 h refl,
      marked_apart b 110 h refl,
      marked_apart b 116 h refl,
      marked_apart b 114 h refl,
      z,
      no_letter b h,
    ) refl

-- ---- what is read of a sequence

abbrev sequence_read : Tree → Option Tree → Reading
sequence_read sequence piece = record {
  level = record { sides = None; sequence = sequence; piece = piece };
  outer = [];
}

bare_read : (end place : ℕ) (sequence : Tree) (piece : Option Tree) (b : ℕ) (rest : List ℕ) →
    stands_bare b ≡ true
    → reads_as end (sequence_read sequence piece) (tokens_from place 0 (b ∷ rest)) ≡ reads_as end
    (sequence_read (with_last sequence piece) (Some (Set (b ∷ [])))) (tokens_from (place + 1)
    0 rest)
unfolding tokens_from
bare_read end place sequence piece b rest h =
    rw (bare_token (place == 0) b rest h) (reads_more end (sequence_read sequence piece) place
    (Bytes (b ∷ [])) (tokens_from (place + 1) 0 rest) refl)

marked_read : (end place : ℕ) (sequence : Tree) (piece : Option Tree) (b : ℕ) (rest : List ℕ) →
    stands_bare b ≡ false → (b == 0) ≡ false
    → reads_as end (sequence_read sequence piece) (tokens_from place 0 (92 ∷ b ∷ rest)) ≡ reads_as
    end (sequence_read (with_last sequence piece) (Some (Set (b ∷ [])))) (tokens_from (place +
    1 + 1) 0 rest)
unfolding tokens_from
marked_read end place sequence piece b rest h z =
    rw (marked_token (place == 0) b rest h z) (reads_more end (sequence_read sequence piece) place
    (Bytes (b ∷ [])) (tokens_from (place + 1 + 1) 0 rest) refl)

byte_read : (end place : ℕ) (sequence : Tree) (piece : Option Tree) (b : ℕ) (rest : List ℕ) → (b ==
    0) ≡ false
    → (next : ℕ)
    × (reads_as end (sequence_read sequence piece) (tokens_from place 0 (pattern_escaped_byte b
    ++ rest)) ≡ reads_as end (sequence_read (with_last sequence piece) (Some (Set (b ∷ []))))
    (tokens_from next 0 rest))
byte_read end place sequence piece b rest z =
    elim (stands_bare b) as (λ v. stands_bare b ≡ v
    → (next : ℕ) × (reads_as end (sequence_read sequence piece) (tokens_from place 0 (cond v (b ∷
    []) (92 ∷ b ∷ []) ++ rest)) ≡ reads_as end (sequence_read (with_last sequence piece) (Some
    (Set (b ∷ [])))) (tokens_from next 0 rest))) [
      | true ↦ λ t. (place + 1, bare_read end place sequence piece b rest t)
      | false ↦ λ f. (place + 1 + 1, marked_read end place sequence piece b rest f z)
    ] refl

-- ---- the language

-- a text has so many positions as bytes, and is the language's only one
record IsAlone (tree : Tree) (text : List ℕ) : Type 0 where
  alone : (other : List ℕ) → In tree other ↔ (other ≡ text)
  counted : positions tree ≡ length text

nothing_alone : IsAlone Nothing []
nothing_alone = record { alone = λ other. (λ e. e, λ e. e); counted = refl }

pushed : (tree : Tree) (front : List ℕ) (b : ℕ) → IsAlone tree front → IsAlone (Both tree (Set (b ∷
    []))) (front ++ b ∷ [])
pushed tree front b h = record {
  alone = λ other. (
    λ (first, rest, split, inside, (c, last, same)).
        let front_is = (h.alone first).0 inside in
        let byte_is = eqb-true b c (or_only (b == c) same) in
        split ∙ ap (λ xs. xs ++ rest) front_is ∙ ap (λ xs. front ++ xs) (last ∙ ap (λ d. d ∷ [])
        (sym byte_is)),
    λ e. (front, b ∷ [], e, (h.alone front).1 refl, (b, refl, or_kept b)),
  );
  counted = omega (arith, h.counted, length-append front (b ∷ []));
}
  where
    or_only : (t : Bool) → (t || false) ≡ true → t ≡ true
    or_only true e = refl
    or_only false e = e

    or_kept : (b : ℕ) → ((b == b) || false) ≡ true
    or_kept b = ap (λ t. t || false) (same_byte b)

abbrev is_other : ℕ → Bool
is_other b = not (b == 0)

not_zero : (b : ℕ) → is_other b ≡ true → (b == 0) ≡ false
not_zero b h = by_case (b == 0) h
  where
    by_case : (t : Bool) → not t ≡ true → t ≡ false
    by_case true e = sym e
    by_case false e = refl

text_read : (end place : ℕ) (sequence : Tree) (piece : Option Tree) (front text : List ℕ) → list_all
    is_other text ≡ true → IsAlone (with_last sequence piece) front → length front + length text ≤
    2000
    → (tree : Tree)
    × (reads_as end (sequence_read sequence piece) (tokens_from place 0 (pattern_escaped
    text)) ≡ Ok tree) × IsAlone tree (front ++ text)
unfolding tokens_from
text_read end place sequence piece front [] others h short = (
  with_last sequence piece,
  ends_whole end (sequence_read sequence piece) refl (omega (
    arith,
    h.counted,
  )),
  subst (IsAlone (with_last sequence piece)) (sym (append-nil front)) h,
)
text_read end place sequence piece front (b ∷ bs) others h short =
    let z = not_zero b (first_so (is_other b) (list_all is_other bs) others) in
    let step = byte_read end place sequence piece b (pattern_escaped bs) z in
    let joined = length-append front (b ∷ []) in
    let rest = text_read end step.0 (with_last sequence piece) (Some (Set (b ∷ []))) (front ++ b ∷
    []) bs (second_so (is_other b) (list_all is_other bs) others) (pushed (with_last sequence
    piece) front b h) (omega (arith, short, joined)) in
    (rest.0, step.1 ∙ rest.1, subst (IsAlone rest.0) (append_assoc front (b ∷ []) bs) rest.2)

text_alone : (text : List ℕ) → list_all is_other text ≡ true → length text ≤ 2000
    → Matches (pattern_escaped
    text) text
unfolding pattern_of
text_alone text others short =
    let found = text_read (length (pattern_escaped text)) 0 Nothing None [] text others
    nothing_alone (omega
    arith) in
    record { tree = found.0; read = found.1; alone = found.2.alone }

-- ---- the text of a path

all_others : (name rest : List ℕ) → list_all is_name_byte name ≡ true → list_all is_other rest ≡
    true → list_all is_other (name ++ rest) ≡ true
all_others [] rest h others = others
all_others (b ∷ bs) rest h others =
    let here = second_so (not (b == 47)) (is_other b) (first_so (is_name_byte b) (list_all
    is_name_byte bs) h) in
    and_from (is_other b) (list_all is_other (bs ++ rest)) here (all_others bs rest (second_so
    (is_name_byte b) (list_all is_name_byte bs) h) others)

slashed_others : (names : Path) → are_names names ≡ true → list_all is_other (with_slashes names) ≡
    true
slashed_others [] h = refl
slashed_others (name ∷ names) h =
    all_others name (with_slashes names) (name_bytes name (first_so (is_name name) (are_names names)
    h)) (slashed_others names (second_so (is_name name) (are_names names) h))

path_others : (names : Path) → are_names names ≡ true → list_all is_other (path_text names) ≡ true
path_others [] h = refl
path_others (name ∷ names) h = slashed_others (name ∷ names) h

pub path_alone : (path own : Path) → own ≡ path → are_names own ≡ true → length (path_text path) ≤
    2000 → Matches (pattern_escaped (path_text path)) (path_text path)
path_alone path own same names short = text_alone (path_text path) (path_others path (subst (λ p.
    are_names p ≡ true) same names)) short
