-- The users for whom a line is given, by flags.
use Rattle.std.proofs.Common.{◌≡◌, ◌∙◌, sym, refl, ap, ℕ, zero, suc, ◌+◌, ◌<◌, ◌≤◌, ◌||◌, Bool}
use Rattle.std.proofs.Common.{true, false, cond, List, [], ◌∷◌, ◌++◌, length, drop, get_or, arith}
use Rattle.std.specs.List.{list_any}
use Rattle.std.specs.declared.vec.Vec.{Vec}
use Rattle.std.proofs.lemmas.List.{drop_all, drop_more, map-append}
use Rattle.label_base.specs.Lines.{is_comment}
use Rattle.label_base.specs.Text.{same_bytes}
use Rattle.home_contexts.specs.Homes.{filled_fields, first_by_root, given_by_fields, given_to, hold}
use Rattle.home_contexts.specs.Homes.{root_text, users_for}
use Rattle.home_contexts.specs.Making.{chosen, first_flags, for_user, key_texts}
use Rattle.home_contexts.specs.User.{UserValue}
use Rattle.home_contexts.specs.Words.{is_other, is_root_word}

pub chosen_all : (flags : List Bool) (users : List UserValue) → length flags ≡ length users → chosen
    true flags users ≡ users
chosen_all [] [] h = refl
chosen_all [] (user ∷ users) h = absurd (omega (arith, h))
chosen_all (flag ∷ flags) [] h = absurd (omega (arith, h))
chosen_all (flag ∷ flags) (user ∷ users) h = ap (λ us. user ∷ us) (chosen_all flags users (omega
    (arith, h)))

pub flags_length : (seen : List (List ℕ)) (users : List UserValue) → length (first_flags seen users)
    ≡ length users
flags_length seen [] = refl
flags_length seen (user ∷ users) =
    elim (list_any (same_bytes (root_text user)) seen) as (λ v. length (cond v (false ∷ first_flags
    seen users) (true ∷ first_flags (seen ++ root_text user ∷ []) users)) ≡ suc (length
    users)) [
      | true ↦ ap suc (flags_length seen users)
      | false ↦ ap suc (flags_length (seen ++ root_text user ∷ []) users)
    ]

pub chosen_firsts : (seen : List (List ℕ)) (users : List UserValue) → chosen false (first_flags seen
    users) users ≡ first_by_root seen users
chosen_firsts seen [] = refl
chosen_firsts seen (user ∷ users) =
    elim (list_any (same_bytes (root_text user)) seen) as (λ v. chosen false (cond v (false ∷
    first_flags seen users) (true ∷ first_flags (seen ++ root_text user ∷ []) users)) (user ∷
    users)
    ≡ cond v (first_by_root seen users)
    (user ∷ first_by_root (seen ++ root_text user ∷ []) users)) [
      | true ↦ chosen_firsts seen users
      | false ↦ ap (λ us. user ∷ us) (chosen_firsts (seen ++ root_text user ∷ []) users)
    ]

chosen_more : (all : Bool) (flags : List Bool) (users : List UserValue) (i : ℕ) (flag : Bool) (user
    : UserValue) → i < length users → length flags ≡ length users → flag ≡ get_or flags i flag →
    user ≡ get_or users i user
    → chosen all (drop i flags) (drop i users) ≡ for_user (all || flag) user ++ chosen all (drop (i
    + 1) flags) (drop (i + 1) users)
chosen_more all flags users i flag user within same flag_is user_is =
    let first : drop i flags ≡ flag ∷ drop (i + 1) flags = drop_more flags i flag (omega (
      arith,
      within,
      same,
    )) ∙ ap (λ f. f ∷ drop (i + 1) flags) (sym flag_is) in
    let second : drop i users ≡ user ∷ drop (i + 1) users = drop_more users i user within ∙ ap (λ u.
    u ∷ drop (i + 1) users) (sym user_is) in
    ap (λ fs. chosen all fs (drop i users)) first ∙ ap (chosen all (flag ∷ drop (i + 1) flags))
    second

none_chosen : (all : Bool) (flags : List Bool) → chosen all flags [] ≡ []
none_chosen all [] = refl
none_chosen all (flag ∷ flags) = refl

pub given_more : (all : Bool) (flags : List Bool) (users : List UserValue) (i : ℕ) (flag : Bool)
    (user : UserValue) (number : ℕ) (fields : List (List ℕ)) → i < length users → length flags ≡
    length users
    → flag ≡ get_or flags i flag → user ≡ get_or users i user
    → given_to (chosen all (drop i flags) (drop i users)) number fields ≡ given_to (for_user (all ||
    flag) user) number fields ++ given_to (chosen all (drop (i + 1) flags) (drop (i + 1)
    users)) number fields
given_more all flags users i flag user number fields within same flag_is user_is =
    ap (λ us. given_to us number fields) (chosen_more all flags users i flag user within same
    flag_is user_is)
    ∙ map-append (λ (u : UserValue). record { number = number; fields = filled_fields u fields })
    (for_user (all || flag) user) (chosen all (drop (i + 1) flags) (drop (i + 1) users))

pub given_end : (all : Bool) (flags : List Bool) (users : List UserValue) (i : ℕ) (number : ℕ)
    (fields : List (List ℕ)) → length users ≤ i → given_to (chosen all (drop i flags) (drop i
    users)) number fields ≡ []
given_end all flags users i number fields past =
    ap (λ us. given_to (chosen all (drop i flags) us) number fields) (drop_all i users past) ∙ ap (λ
    us. given_to us number fields) (none_chosen all (drop i flags))

-- ---- the lines of one line of the template

first_given : (users : List UserValue) (number : ℕ) (field : List ℕ) (fields : List (List ℕ)) →
    is_comment field ≡ false → given_by_fields users number (field ∷ fields) ≡ given_to (users_for
    users (field ∷ fields)) number (field ∷ fields)
first_given users number field fields said = ap (λ t. cond t [] (given_to (users_for users (field ∷
    fields)) number (field ∷ fields))) said

pub comment_given : (users : List UserValue) (number : ℕ) (all : List (List ℕ)) (field : List ℕ)
    (fields : List (List ℕ)) → all ≡ field ∷ fields → is_comment field ≡ true → given_by_fields
    users number all ≡ []
comment_given users number all field fields cut comment =
    ap (given_by_fields users number) cut ∙ ap (λ t. cond t [] (given_to (users_for users (field ∷
    fields)) number (field ∷ fields))) comment

pub other_given : (users : List UserValue) (flags : List Bool) (number : ℕ) (all : List (List ℕ))
    (field : List ℕ) (fields : List (List ℕ)) → all ≡ field ∷ fields → is_comment field ≡ false →
    length flags ≡ length users
    → hold is_other (field ∷ fields) ≡ true → given_by_fields users number all ≡ given_to (chosen
    true flags users) number (field ∷ fields)
other_given users flags number all field fields cut said same other =
    ap (given_by_fields users number) cut ∙ first_given users number field fields said
    ∙ ap (λ t. given_to
    (cond t users (cond (hold is_root_word (field ∷ fields)) (first_by_root [] users)
    [])) number (field ∷ fields)) other
    ∙ ap (λ us. given_to us number (field ∷ fields)) (sym (chosen_all flags users same))

pub root_given : (users : List UserValue) (flags : List Bool) (number : ℕ) (all : List (List ℕ))
    (field : List ℕ) (fields : List (List ℕ)) → all ≡ field ∷ fields → is_comment field ≡ false →
    flags ≡ first_flags [] users
    → hold is_other (field ∷ fields) ≡ false → hold is_root_word (field ∷ fields) ≡ true →
    given_by_fields users number all ≡ given_to (chosen false flags users) number (field ∷
    fields)
root_given users flags number all field fields cut said firsts other root =
    ap (given_by_fields users number) cut ∙ first_given users number field fields said
    ∙ ap (λ t. given_to
    (cond t users (cond (hold is_root_word (field ∷ fields)) (first_by_root [] users)
    [])) number (field ∷ fields)) other
    ∙ ap (λ t. given_to (cond t (first_by_root [] users) []) number (field ∷ fields)) root
    ∙ ap (λ us. given_to us number (field ∷ fields)) (sym (chosen_firsts [] users) ∙ ap (λ fs.
    chosen false fs users) (sym firsts))

pub none_given : (users : List UserValue) (number : ℕ) (all : List (List ℕ)) (field : List ℕ)
    (fields : List (List ℕ)) → all ≡ field ∷ fields → is_comment field ≡ false
    → hold is_other (field ∷ fields) ≡ false → hold is_root_word (field ∷ fields) ≡ false →
    given_by_fields users number all ≡ []
none_given users number all field fields cut said other root =
    ap (given_by_fields users number) cut ∙ first_given users number field fields said
    ∙ ap (λ t. given_to
    (cond t users (cond (hold is_root_word (field ∷ fields)) (first_by_root [] users)
    [])) number (field ∷ fields)) other
    ∙ ap (λ t. given_to (cond t (first_by_root [] users) []) number (field ∷ fields)) root

-- ---- roots that were seen

pub any_key : {A : Type 0} (root : List ℕ) (keys : List (Vec ℕ A)) → list_any (same_bytes root)
    (key_texts keys) ≡ list_any (λ key. same_bytes root key.items) keys
any_key root [] = refl
any_key root (key ∷ keys) = ap (λ t. same_bytes root key.items || t) (any_key root keys)

pub flag_itself : (flags : List Bool) (i : ℕ) (d : Bool) → i < length flags → get_or flags i d ≡
    get_or flags i (get_or flags i d)
flag_itself [] i d h = absurd (omega arith)
flag_itself (flag ∷ flags) zero d h = refl
flag_itself (flag ∷ flags) (suc i) d h = flag_itself flags i d (omega (arith, h))

pub given_next : (all : Bool) (flags : List Bool) (users : List UserValue) (i : ℕ) (flag : Bool)
    (user : UserValue) (is_for : Bool) (number : ℕ) (fields : List (List ℕ)) → i < length users →
    length flags ≡ length users
    → flag ≡ get_or flags i flag → user ≡ get_or users i user → is_for ≡ (all || flag)
    → given_to (chosen all (drop i flags) (drop i users)) number fields ≡ given_to (for_user is_for
    user) number fields ++ given_to (chosen all (drop (i + 1) flags) (drop (i + 1) users))
    number fields
given_next all flags users i flag user is_for number fields within same flag_is user_is for_is =
    given_more all flags users i flag user number fields within same flag_is user_is
    ∙ ap (λ v. given_to (for_user v user) number fields ++ given_to (chosen all (drop (i + 1) flags)
    (drop (i + 1) users)) number fields) (sym for_is)
