-- The fields of a line of the template, and what the lines of the whole template give.
use Rattle.std.proofs.Common.{◌≡◌, ◌∙◌, sym, refl, ap, subst, ℕ, suc, ◌+◌, ◌≤◌, ◌==◌, Bool, true}
use Rattle.std.proofs.Common.{false, cond, List, [], ◌∷◌, ◌++◌, length, arith}
use Rattle.std.specs.Prelude.{Contains, IfOk, None, Result, Ok, Err, nat_lt, not}
use Rattle.std.specs.List.{list_all, list_any}
use Rattle.std.proofs.lemmas.Bool.{and_from, ltb-false, ne_eqb, or_from, or_parts}
use Rattle.std.proofs.lemmas.List.Folds.{list_any-append}
use Rattle.label_base.specs.Answers.{Answers, fault_cause}
use Rattle.label_base.specs.Lines.{fields_of, is_blank, is_comment, lines_of}
use Rattle.label_base.specs.LineGrammar.{AreFields, AreLines, IsField, last, more, none}
use Rattle.label_base.specs.declared.fault.Fault.{Fault}
use Rattle.label_base.proofs.LineCuts.{fields_sound, lines_sound}
use Rattle.home_contexts.specs.Homes.{Given, IsReadBack, first_refusal, given_by_fields, given_from}
use Rattle.home_contexts.specs.Homes.{is_long, homes_text, text_or_fault, unless_refused}
use Rattle.home_contexts.specs.Homes.{within_limits}
use Rattle.home_contexts.specs.Making.{are_parts, is_feed, is_home_given, is_part}
use Rattle.home_contexts.specs.User.{UserValue, ends_field}
use Rattle.home_contexts.specs.declared.homes_fault.HomesWhy.{HomesWhy}
use Rattle.home_contexts.specs.declared.homes_fault.HomesWhy.TheVariants.{TooLong, TooManySpecs}
use Rattle.home_contexts.proofs.ReadBack.{reads_back}

-- ---- fields

both_ends : (bytes : List ℕ) → list_any is_blank bytes ≡ false → list_any is_feed bytes ≡ false →
    list_any ends_field bytes ≡ false
both_ends [] blank feed = refl
both_ends (b ∷ bs) blank feed =
    let blanks = or_parts (is_blank b) (list_any is_blank bs) blank in
    let feeds = or_parts (is_feed b) (list_any is_feed bs) feed in
    or_from (ends_field b) (list_any ends_field bs) (or_from (is_blank b) (is_feed b) blanks.0
    feeds.0) (both_ends bs blanks.1 feeds.1)

field_part : (field : List ℕ) → IsField field → list_any is_feed field ≡ false → is_part field ≡
    true
field_part field f feed =
    and_from (not (length field == 0)) (not (list_any ends_field field))
    (ap not (ne_eqb (length field) 0 (λ e. omega (arith, e, f.some)))) (ap not (both_ends field
    f.no_blank feed))

front_feed : (front back : List ℕ) → list_any is_feed (front ++ back) ≡ false → (list_any is_feed
    front ≡ false) × (list_any is_feed back ≡ false)
front_feed front back h = or_parts (list_any is_feed front) (list_any is_feed back) (sym
    (list_any-append is_feed front back) ∙ h)

fields_parts : (line : List ℕ) (fields : List (List ℕ)) → AreFields line fields → list_any is_feed
    line ≡ false → list_all is_part fields ≡ true
fields_parts line fields (none blanks h) feed = refl
fields_parts line fields (last blanks field h f) feed = and_from (is_part field) true (field_part
    field f (front_feed blanks field feed).1) refl
fields_parts line fields (more blanks field b rest others h f blank are) feed =
    let parts = front_feed (blanks ++ field) (b ∷ rest) feed in
    and_from (is_part field) (list_all is_part others) (field_part field f (front_feed blanks field
    parts.0).1) (fields_parts rest others are (or_parts (is_feed b) (list_any is_feed rest)
    parts.1).1)

pub line_parts : (text first : List ℕ) (others : List (List ℕ)) → fields_of text ≡ first ∷ others →
    is_comment first ≡ false → list_any is_feed text ≡ false → are_parts (first ∷ others) ≡ true
line_parts text first others cut said feed =
    and_from (not (is_comment first)) (list_all is_part (first ∷ others)) (ap not said)
    (ap (list_all is_part) (sym cut) ∙ fields_parts text (fields_of text) (fields_sound text) feed)

-- ---- lines

lacking : (line : List ℕ) → ¬ Contains line 10 → list_any is_feed line ≡ false
lacking [] h = refl
lacking (b ∷ bs) h =
    or_from (is_feed b) (list_any is_feed bs) (ne_eqb b 10 (λ e. h (0, omega arith, e))) (lacking bs
    (λ (k, within, is). h (suc k, omega (arith, within), is)))

pub first_feed : (left text rest : List ℕ) → lines_of left ≡ text ∷ lines_of rest → list_any is_feed
    text ≡ false
first_feed left text rest cut = of_lines left (text ∷ lines_of rest) text (lines_of rest) (subst
    (AreLines left) cut (lines_sound left)) refl
  where
    of_lines : (left : List ℕ) (lines : List (List ℕ)) (text : List ℕ) (others : List (List ℕ)) →
        AreLines left lines → lines ≡ text ∷ others → list_any is_feed text ≡ false
    of_lines left lines text others none e = absurd (let f : [] ≡ text ∷ others = e in cc)
    of_lines left lines text others (last line some lacks) e = let same : line ≡ text = cc in subst
        (λ t. list_any is_feed t ≡ false) same (lacking line lacks)
    of_lines left lines text others (more line rest later lacks are) e = let same : line ≡ text = cc
        in subst (λ t. list_any is_feed t ≡ false) same (lacking line lacks)

pub lines_split : (users : List UserValue) (number : ℕ) (left text rest : List ℕ) → lines_of left ≡
    text ∷ lines_of rest
    → given_from users number (lines_of left) ≡ given_by_fields users number (fields_of text) ++
    given_from users (number + 1) (lines_of rest)
lines_split users number left text rest cut = ap (given_from users number) cut

-- ---- the answer

fine_text : (given : List Given) → list_any is_long given ≡ false → first_refusal given ≡ None →
    text_or_fault given ≡ within_limits given
fine_text given short fine = ap (λ t. cond t (Err TooLong) (unless_refused (first_refusal given)
    given)) short ∙ ap (λ o. unless_refused o given) fine

pub answers_text : (given : List Given) (result : Result (List ℕ) (Fault HomesWhy)) → list_any
    is_long given ≡ false → first_refusal given ≡ None
    → Answers (λ (text : List ℕ). text) fault_cause result (within_limits given)
    → Answers (λ (text :
    List ℕ). text) fault_cause result (text_or_fault given)
answers_text given result short fine h =
    subst (Answers (λ (text : List ℕ). text) fault_cause result)
    (sym (fine_text given short fine)) h

within_ok : (given : List Given) (text : List ℕ) → within_limits given ≡ Ok text
    → (text ≡ homes_text
    given) × (length given ≤ 65536)
within_ok given text h = by_lines (nat_lt 65536 (length given)) (nat_lt 67108864 (length (homes_text
    given))) refl h
  where
    by_lines : (many long : Bool) → nat_lt 65536 (length given) ≡ many → cond many (Err
        TooManySpecs) (cond long (Err TooLong) (Ok (homes_text given))) ≡ Ok text
        → (text ≡ homes_text
        given) × (length given ≤ 65536)
    by_lines true long e h = absurd (let f : Err TooManySpecs ≡ Ok text = h in cc)
    by_lines false true e h = absurd (let f : Err TooLong ≡ Ok text = h in cc)
    by_lines false false e h = (
      let f : Ok (homes_text given) ≡ Ok text = h in cc,
      ltb-false 65536
          (length given) e,
    )

pub answers_back : (given : List Given) (result : Result (List ℕ) (Fault HomesWhy)) → list_all
    is_home_given given ≡ true → first_refusal given ≡ None
    → Answers (λ (text : List ℕ). text) fault_cause result (within_limits given) → IfOk result
    IsReadBack
answers_back given (Ok text) parts fine h = let found = within_ok given text h in reads_back given
    text found.0 parts fine found.1
answers_back given (Err e) parts fine h = tt
