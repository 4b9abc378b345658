-- A line with a user's values in place is cut into the fields that it was made of.
use Rattle.std.proofs.Common.{◌≡◌, ◌∙◌, sym, refl, ap, subst, ℕ, zero, suc, ◌-◌, ◌<◌, ◌≤◌, ◌==◌}
use Rattle.std.proofs.Common.{Bool, true, false, cond, List, [], ◌∷◌, ◌++◌, length, map, take}
use Rattle.std.proofs.Common.{get_or, length-append, arith}
use Rattle.std.specs.Prelude.{Option, Some, None, not, nat_le}
use Rattle.std.specs.List.{flat_map, list_all, list_any}
use Rattle.std.specs.Cmp.{first_so, second_so}
use Rattle.std.proofs.lemmas.Bool.{and_from, and_parts, false≢true, or_from, or_parts, ne_eqb}
use Rattle.std.proofs.lemmas.Bool.Decides.{nat_tests}
use Rattle.std.proofs.lemmas.List.Folds.{list_any-append}
use Rattle.std.proofs.lemmas.Option.{slice_get-get_or}
use Rattle.label_base.specs.Lines.{is_comment}
use Rattle.context_syntax.specs.Context.{is_word_byte}
use Rattle.file_paths.specs.Path.{Path, path_text}
use Rattle.home_contexts.specs.Escaped.{pattern_escaped, stands_bare}
use Rattle.home_contexts.specs.Homes.{filled_fields}
use Rattle.home_contexts.specs.Making.{are_parts, is_part}
use Rattle.home_contexts.specs.User.{IsUser, UserValue, ends_field, is_home}
use Rattle.home_contexts.specs.Words.{filled, template_text, pieces_from, root_of, word_value}
use Rattle.home_contexts.specs.Words.{piece_then, template_word_at, word_text, written_word}
use Rattle.home_contexts.specs.declared.word.FieldPiece.{FieldPiece}
use Rattle.home_contexts.specs.declared.word.Word.{Word}
use Rattle.home_contexts.specs.declared.word.Word.TheVariants.{HomeDir, HomeRoot, Role, User}
use Rattle.home_contexts.proofs.GivenLines.{not_true, part_ends, part_some}
use Rattle.home_contexts.proofs.ValueLemmas.{root_apart}

-- ---- values

word_ends : (b : ℕ) → is_word_byte b ≡ true → ends_field b ≡ false
word_ends b h = grind (arith, nat_tests)

bytes_end : (bytes : List ℕ) → list_all is_word_byte bytes ≡ true → list_any ends_field bytes ≡
    false
bytes_end [] h = refl
bytes_end (b ∷ bs) h = or_from (ends_field b) (list_any ends_field bs) (word_ends b (first_so
    (is_word_byte b) (list_all is_word_byte bs) h)) (bytes_end bs (second_so (is_word_byte b)
    (list_all is_word_byte bs) h))

some_bytes : (bytes : List ℕ) → not (length bytes == 0) ≡ true → 0 < length bytes
some_bytes [] h = absurd (false≢true h)
some_bytes (b ∷ bs) h = omega arith

text_some : (path : Path) → 0 < length (path_text path)
text_some [] = omega arith
text_some (name ∷ names) = omega arith

home_names : (n : ℕ) → nat_le 2 n ≡ true → 2 ≤ n
home_names n h = grind (arith, nat_tests)

home_ends : (home : Path) → is_home home ≡ true → list_any ends_field (path_text home) ≡ false
home_ends home h = not_true (list_any ends_field (path_text home)) (second_so (nat_le 2 (length
    home)) (not (list_any ends_field (path_text home))) h)

root_ends : (home : Path) → is_home home ≡ true → list_any ends_field (path_text (root_of home)) ≡
    false
root_ends home h =
    let names = home_names (length home) (first_so (nat_le 2 (length home)) (not (list_any
    ends_field (path_text home))) h) in
    let last = get_or home (length home - 1) [] in
    let apart = root_apart home last names (slice_get-get_or home (length home - 1) [] (omega
    (arith, names))) in
    let whole : list_any ends_field (path_text (root_of home) ++ 47 ∷ last) ≡ false = ap (list_any
    ends_field) (sym apart) ∙ home_ends home h in
    (or_parts (list_any ends_field (path_text (root_of home))) (list_any ends_field (47 ∷ last))
    (sym (list_any-append ends_field (path_text (root_of home)) (47 ∷ last)) ∙ whole)).0

value_ends : (user : UserValue) → IsUser user → (word : Word) → list_any ends_field (word_value user
    word) ≡ false
value_ends user h HomeRoot = root_ends user.home h.home
value_ends user h HomeDir = home_ends user.home h.home
value_ends user h Role = bytes_end user.role (second_so (not (length user.role == 0)) (list_all
    is_word_byte user.role) h.role)
value_ends user h User = bytes_end user.name (second_so (not (length user.name == 0)) (list_all
    is_word_byte user.name) h.name)

value_some : (user : UserValue) → IsUser user → (word : Word) → 0 < length (word_value user word)
value_some user h HomeRoot = text_some (root_of user.home)
value_some user h HomeDir = text_some user.home
value_some user h Role = some_bytes user.role (first_so (not (length user.role == 0)) (list_all
    is_word_byte user.role) h.role)
value_some user h User = some_bytes user.name (first_so (not (length user.name == 0)) (list_all
    is_word_byte user.name) h.name)

escaped_ends : (text : List ℕ) → list_any ends_field text ≡ false
    → list_any ends_field (pattern_escaped
    text) ≡ false
escaped_ends [] h = refl
escaped_ends (b ∷ bs) h =
    let both = or_parts (ends_field b) (list_any ends_field bs) h in
    let rest = or_from (ends_field b) (list_any ends_field (pattern_escaped bs)) both.0
    (escaped_ends bs
    both.1) in
    elim (stands_bare b) as
    (λ v. list_any ends_field (cond v (b ∷ []) (92 ∷ b ∷ []) ++ pattern_escaped bs)
    ≡ false) [ true ↦ rest | false ↦ rest ]

written_ends : (in_pattern : Bool) (text : List ℕ) → list_any ends_field text ≡ false → list_any
    ends_field (written_word in_pattern text) ≡ false
written_ends true text h = escaped_ends text h
written_ends false text h = h

escaped_some : (text : List ℕ) → 0 < length text → 0 < length (pattern_escaped text)
escaped_some [] h = h
escaped_some (b ∷ bs) h =
    elim (stands_bare b) as (λ v. 0
    < length (cond v (b ∷ []) (92 ∷ b ∷ []) ++ pattern_escaped bs)) [
      | true ↦
          omega arith
      | false ↦ omega arith
    ]

written_some : (in_pattern : Bool) (text : List ℕ) → 0 < length text → 0 < length (written_word
    in_pattern text)
written_some true text h = escaped_some text h
written_some false text h = h

-- what is escaped begins no comment
escaped_begins : (text rest : List ℕ) → 0 < length text → is_comment (pattern_escaped text ++ rest)
    ≡ false
escaped_begins [] rest h = absurd (omega arith)
escaped_begins (b ∷ bs) rest h =
    elim (stands_bare b) as (λ v. stands_bare b ≡ v → is_comment ((cond v (b ∷ []) (92 ∷ b ∷ []) ++
    pattern_escaped bs) ++ rest) ≡ false) [
      | true ↦ λ t. ne_eqb b 35 (λ e. let bare : stands_bare 35 ≡ true = subst (λ n. stands_bare n ≡
          true) e t in absurd (false≢true bare))
      | false ↦ λ f. refl
    ] refl

-- ---- fields

abbrev text_from : Bool → UserValue → List FieldPiece → List ℕ
text_from in_pattern user pieces = flat_map (template_text in_pattern user) pieces

piece_ends : (user : UserValue) → IsUser user → (in_pattern : Bool) (b : ℕ) (found : Option Word)
    (rest : ℕ → List FieldPiece) → ends_field b ≡ false
    → ((skip : ℕ) → list_any ends_field (text_from in_pattern user (rest skip)) ≡ false) → list_any
    ends_field (text_from in_pattern user (piece_then b found rest)) ≡ false
piece_ends user h in_pattern b None rest here later = or_from (ends_field b) (list_any ends_field
    (text_from in_pattern user (rest 0))) here (later 0)
piece_ends user h in_pattern b (Some word) rest here later =
    let text = written_word in_pattern (word_value user word) in
    let skip = length (word_text word) - 1 in
    list_any-append ends_field text (text_from in_pattern user (rest skip))
    ∙ or_from (list_any ends_field text) (list_any ends_field (text_from in_pattern user (rest
    skip))) (written_ends in_pattern (word_value user word) (value_ends user h word)) (later
    skip)

pieces_end : (user : UserValue) → IsUser user → (in_pattern : Bool) (skip : ℕ) (text : List ℕ) →
    list_any ends_field text ≡ false → list_any ends_field (text_from in_pattern user (pieces_from
    skip text)) ≡ false
unfolding pieces_from
pieces_end user h in_pattern skip [] none = refl
pieces_end user h in_pattern (suc skip) (b ∷ bs) none = pieces_end user h in_pattern skip bs
    (or_parts (ends_field b) (list_any ends_field bs) none).1
pieces_end user h in_pattern zero (b ∷ bs) none =
    let both = or_parts (ends_field b) (list_any ends_field bs) none in
    piece_ends user h in_pattern b (template_word_at (b ∷ bs)) (λ skip. pieces_from skip bs) both.0
    (λ skip.
    pieces_end user h in_pattern skip bs both.1)

piece_some : (user : UserValue) → IsUser user → (in_pattern : Bool) (b : ℕ) (found : Option Word)
    (rest : ℕ → List FieldPiece) → 0 < length (text_from in_pattern user (piece_then b found rest))
piece_some user h in_pattern b None rest = omega arith
piece_some user h in_pattern b (Some word) rest =
    let some = written_some in_pattern (word_value user word) (value_some user h word) in
    let sum = length-append (written_word in_pattern (word_value user word))
    (text_from in_pattern user
    (rest (length (word_text word) - 1))) in
    omega (arith, some, sum)

field_some : (user : UserValue) → IsUser user → (in_pattern : Bool) (field : List ℕ) → 0 < length
    field → 0 < length (filled in_pattern user field)
unfolding pieces_from
field_some user h in_pattern [] some = absurd (omega arith)
field_some user h in_pattern (b ∷ bs) some =
    piece_some user h in_pattern b (template_word_at (b ∷ bs)) (λ
    skip. pieces_from skip bs)

not_empty : (bytes : List ℕ) → 0 < length bytes → not (length bytes == 0) ≡ true
not_empty [] h = absurd (omega arith)
not_empty (b ∷ bs) h = ap not (ne_eqb (length (b ∷ bs)) 0 (λ e. omega (arith, e)))

filled_part : (user : UserValue) → IsUser user → (in_pattern : Bool) (field : List ℕ) → is_part
    field ≡ true → is_part (filled in_pattern user field) ≡ true
filled_part user h in_pattern field part =
    and_from (not (length (filled in_pattern user field) == 0)) (not (list_any ends_field (filled
    in_pattern user field)))
    (not_empty (filled in_pattern user field) (field_some user h in_pattern field (part_some field
    part)))
    (ap not (pieces_end user h in_pattern 0 field (part_ends field part)))

filled_parts : (user : UserValue) → IsUser user → (n : ℕ) (fields : List (List ℕ)) → list_all
    is_part fields ≡ true → list_all is_part (map (filled false user) (take n fields)) ≡ true
filled_parts user h zero fields parts = refl
filled_parts user h (suc n) [] parts = refl
filled_parts user h (suc n) (field ∷ fields) parts =
    let both = and_parts (is_part field) (list_all is_part fields) parts in
    and_from (is_part (filled false user field)) (list_all is_part (map (filled false user) (take n
    fields))) (filled_part user h false field both.0) (filled_parts user h n fields both.1)

piece_begins : (user : UserValue) → IsUser user → (b : ℕ) (found : Option Word) (rest : ℕ → List
    FieldPiece) → (b == 35) ≡ false → is_comment (text_from true user (piece_then b found rest)) ≡
    false
piece_begins user h b None rest other = other
piece_begins user h b (Some word) rest other = escaped_begins (word_value user word) (text_from true
    user (rest (length (word_text word) - 1))) (value_some user h word)

pattern_begins : (user : UserValue) → IsUser user → (field : List ℕ) → is_comment field ≡ false →
    is_comment (filled true user field) ≡ false
unfolding pieces_from
pattern_begins user h [] other = refl
pattern_begins user h (b ∷ bs) other = piece_begins user h b (template_word_at (b ∷ bs))
    (λ skip. pieces_from
    skip bs) other

pub given_parts : (user : UserValue) → IsUser user → (fields : List (List ℕ)) → are_parts fields ≡
    true → are_parts (filled_fields user fields) ≡ true
given_parts user h [] parts = absurd (false≢true parts)
given_parts user h (field ∷ others) parts =
    let both = and_parts (not (is_comment field)) (list_all is_part (field ∷ others)) parts in
    let all = and_parts (is_part field) (list_all is_part others) both.1 in
    and_from (not (is_comment (filled true user field))) (list_all is_part (filled_fields user
    (field ∷ others)))
    (ap not (pattern_begins user h field (not_true (is_comment field) both.0)))
    (and_from (is_part (filled true user field)) (list_all is_part (map (filled false user) (take 2
    others))) (filled_part user h true field all.0) (filled_parts user h 2 others all.1))
