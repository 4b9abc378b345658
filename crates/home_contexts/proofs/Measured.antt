-- Lines that are too long, found without being made.
use Rattle.std.proofs.Common.{◌≡◌, ◌∙◌, sym, ap, ℕ, ◌+◌, ◌<◌, ◌||◌, Bool, true, false, List, []}
use Rattle.std.proofs.Common.{◌∷◌, length, drop, get_or}
use Rattle.std.specs.List.{flat_map, list_any}
use Rattle.std.proofs.lemmas.List.Folds.{list_any-append}
use Rattle.label_base.specs.Lines.{fields_of, lines_of}
use Rattle.home_contexts.specs.Homes.{given_by_fields, given_from, given_to, is_long}
use Rattle.home_contexts.specs.Making.{chosen, for_user}
use Rattle.home_contexts.specs.User.{UserValue}
use Rattle.home_contexts.specs.Words.{filled, template_text, template_pieces}
use Rattle.home_contexts.proofs.Chosen.{given_more}

pub filled_none : (in_pattern : Bool) (user : UserValue) (field : List ℕ) → template_pieces field
    ≡ [] →
    length (filled in_pattern user field) ≡ 0
filled_none in_pattern user field none =
    ap (λ pieces. length (flat_map (template_text in_pattern user)
    pieces)) none

long_at : (all : Bool) (flags : List Bool) (users : List UserValue) (i : ℕ) (flag : Bool) (user :
    UserValue) (fields : List (List ℕ)) (is_for found : Bool) → i < length users → length flags ≡
    length users
    → flag ≡ get_or flags i flag → user ≡ get_or users i user → is_for ≡ (all || flag) → ((number :
    ℕ) → found ≡ list_any is_long (given_to (for_user is_for user) number fields)) → (number :
    ℕ)
    → list_any is_long (given_to (chosen all (drop i flags) (drop i users)) number fields) ≡ (found
    || list_any is_long (given_to (chosen all (drop (i + 1) flags) (drop (i + 1) users))
    number fields))
long_at all flags users i flag user fields is_for found within same flag_is user_is for_is here
    number =
    let later = given_to (chosen all (drop (i + 1) flags) (drop (i + 1) users)) number fields in
    ap (list_any is_long) (given_more all flags users i flag user number fields within same flag_is
    user_is)
    ∙ list_any-append is_long (given_to (for_user (all || flag) user) number fields) later
    ∙ ap (λ v. list_any is_long (given_to (for_user v user) number fields) || list_any is_long
    later) (sym for_is)
    ∙ ap (λ t. t || list_any is_long later) (sym (here number))

pub long_yes : (all : Bool) (flags : List Bool) (users : List UserValue) (i : ℕ) (flag : Bool) (user
    : UserValue) (fields : List (List ℕ)) (is_for found : Bool) → i < length users → length flags
    ≡ length users
    → flag ≡ get_or flags i flag → user ≡ get_or users i user → is_for ≡ (all || flag) → ((number :
    ℕ) → found ≡ list_any is_long (given_to (for_user is_for user) number fields)) → found ≡
    true → (number : ℕ)
    → list_any is_long (given_to (chosen all (drop i flags) (drop i users)) number fields) ≡ true
long_yes all flags users i flag user fields is_for found within same flag_is user_is for_is here
    is_true number =
    long_at all flags users i flag user fields is_for found within same flag_is user_is for_is here
    number
    ∙ ap (λ t. t || list_any is_long (given_to (chosen all (drop (i + 1) flags) (drop (i + 1)
    users)) number fields)) is_true

pub long_no : (all : Bool) (flags : List Bool) (users : List UserValue) (i : ℕ) (flag : Bool) (user
    : UserValue) (fields : List (List ℕ)) (is_for found : Bool) → i < length users → length flags
    ≡ length users
    → flag ≡ get_or flags i flag → user ≡ get_or users i user → is_for ≡ (all || flag) → ((number :
    ℕ) → found ≡ list_any is_long (given_to (for_user is_for user) number fields)) → found ≡
    false → (number : ℕ)
    → list_any is_long (given_to (chosen all (drop i flags) (drop i users)) number fields) ≡
    list_any is_long (given_to (chosen all (drop (i + 1) flags) (drop (i + 1) users)) number
    fields)
long_no all flags users i flag user fields is_for found within same flag_is user_is for_is here
    is_false number =
    long_at all flags users i flag user fields is_for found within same flag_is user_is for_is here
    number
    ∙ ap (λ t. t || list_any is_long (given_to (chosen all (drop (i + 1) flags) (drop (i + 1)
    users)) number fields)) is_false

pub line_no : (users : List UserValue) (number : ℕ) (left text rest : List ℕ) (found : Bool) →
    lines_of left ≡ text ∷ lines_of rest → found ≡ list_any is_long (given_by_fields users number
    (fields_of text)) → found ≡ false
    → list_any is_long (given_from users number (lines_of left)) ≡ list_any is_long (given_from
    users (number + 1) (lines_of rest))
line_no users number left text rest found cut here is_false =
    ap (λ lines. list_any is_long (given_from users number lines)) cut
    ∙ list_any-append is_long (given_by_fields users number (fields_of text)) (given_from users
    (number + 1) (lines_of rest))
    ∙ ap (λ t. t || list_any is_long (given_from users (number + 1) (lines_of rest))) (sym here ∙
    is_false)

pub line_yes : (users : List UserValue) (number : ℕ) (left text rest : List ℕ) (found : Bool) →
    lines_of left ≡ text ∷ lines_of rest → found ≡ list_any is_long (given_by_fields users number
    (fields_of text)) → found ≡ true
    → list_any is_long (given_from users number (lines_of left)) ≡ true
line_yes users number left text rest found cut here is_true =
    ap (λ lines. list_any is_long (given_from users number lines)) cut
    ∙ list_any-append is_long (given_by_fields users number (fields_of text)) (given_from users
    (number + 1) (lines_of rest))
    ∙ ap (λ t. t || list_any is_long (given_from users (number + 1) (lines_of rest))) (sym here ∙
    is_true)
