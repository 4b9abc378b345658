-- What is kept of the lines that were given, while a text is made.
use Rattle.std.specs.Prelude.{◌≡◌, ⊤, ℕ, ◌+◌, ◌≤◌, ◌==◌, ◌||◌, ◌&&◌, Bool, true, false, not, min}
use Rattle.std.specs.Prelude.{List, [], ◌∷◌, ◌++◌, length, map, Option, Some, None, Result, Ok, Err}
use Rattle.std.specs.Prelude.{if◌then◌else◌}
use Rattle.std.specs.List.{list_all, list_any}
use Rattle.std.specs.Option.{option_copied}
use Rattle.std.specs.declared.vec.Vec.{Vec}
use Rattle.label_base.specs.Answers.{fault_cause}
use Rattle.label_base.specs.Lines.{fields_left, is_comment}
use Rattle.label_base.specs.Text.{same_bytes}
use Rattle.label_base.specs.declared.cut.TheConstants.{LINE_FEED}
use Rattle.label_base.specs.declared.fault.Fault.{Fault}
use Rattle.spec_reader.specs.SpecValue.{SpecValue}
use Rattle.spec_reader.specs.declared.spec_fault.SpecWhy.{SpecWhy}
use Rattle.home_contexts.specs.Homes.{Given, first_refusal, refusal_of, root_text, homes_text}
use Rattle.home_contexts.specs.User.{UserValue, ends_field}
use Rattle.home_contexts.specs.declared.giving.TemplateLine.{TemplateLine}
use Rattle.home_contexts.specs.declared.homes_fault.HomesWhy.{HomesWhy}
use Rattle.home_contexts.specs.declared.homes_fault.HomesWhy.TheVariants.{Refused}
use Rattle.home_contexts.specs.declared.limits.TheConstants.{MOST_SPECS, MOST_TEXT_BYTES}
use Rattle.home_contexts.specs.declared.made.Made.{Made}
use Rattle.home_contexts.specs.declared.word.TheConstants.{HOME_FIRST, ROLE_FIRST, USER_FIRST}

-- counts go up to one more than there may be, and the text is kept as long as it may be answered
pub record IsMade (made : Made) (given : List Given) : Type 0 where
  pub counted : made.lines ≡ min (MOST_SPECS + 1) (length given)
  pub measured : made.bytes ≡ min (MOST_TEXT_BYTES + 1) (length (homes_text given))
  pub kept : made.lines ≤ MOST_SPECS → made.bytes ≤ MOST_TEXT_BYTES → made.text ≡ homes_text given

-- ---- one step

-- the first refusal is this cause, if there is a cause
abbrev pub StopsAtRefused : Option HomesWhy → List Given → Type 0
StopsAtRefused None next = ⊤
StopsAtRefused (Some (Refused refused)) next = first_refusal next ≡ Some refused
StopsAtRefused (Some why) next = ⊥

-- ---- one line

-- the fields of a line of the template
abbrev pub fields_in : TemplateLine → List (List ℕ)
fields_in line = line.first.now ∷ fields_left (option_copied line.more)

abbrev pub is_feed : ℕ → Bool
is_feed b = b == LINE_FEED

-- bytes that can stand as a field
abbrev pub is_part : List ℕ → Bool
is_part field = not (length field == 0) && not (list_any ends_field field)

-- the fields of a line that says something
abbrev pub are_parts : List (List ℕ) → Bool
are_parts [] = false
are_parts (field ∷ fields) = not (is_comment field) && list_all is_part (field ∷ fields)

abbrev pub is_home_given : Given → Bool
is_home_given given = are_parts given.fields

-- each of these lines has fields and is a specification, and what is kept is that of all
pub record AddsGiven (old new : Made) (next : List Given) : Type 0 where
  pub parts : list_all is_home_given next ≡ true
  pub fine : first_refusal next ≡ None
  pub made : (given : List Given) → IsMade old given → IsMade new (given ++ next)

-- these lines are given, none of them refused; or one is, or memory ran out
abbrev pub GivesHomes : {U : Type 0} → Result U (Fault HomesWhy) → Made → Made → List Given → Type 0
GivesHomes (Ok u) old new next = AddsGiven old new next
GivesHomes (Err e) old new next = StopsAtRefused (fault_cause e) next

-- the cause is that the line with this number is refused, if there is a cause
abbrev pub RefusedAs : Option HomesWhy → ℕ → Result SpecValue SpecWhy → Type 0
RefusedAs None number read = ⊤
RefusedAs (Some (Refused refused)) number read = refusal_of number read ≡ Some refused
RefusedAs (Some why) number read = ⊥

-- the line is a specification, or it is refused, or memory ran out
abbrev pub Checks : {U : Type 0} → Result U (Fault HomesWhy) → ℕ → Result SpecValue SpecWhy → Type 0
Checks (Ok u) number read = (spec : SpecValue) × (read ≡ Ok spec)
Checks (Err e) number read = RefusedAs (fault_cause e) number read

-- ---- runs

-- no word begins with this byte
abbrev pub begins_none : ℕ → Bool
begins_none b = not (b == HOME_FIRST) && (not (b == ROLE_FIRST) && not (b == USER_FIRST))

-- ---- users by flags

-- the user, where the line is for them
abbrev pub for_user : Bool → UserValue → List UserValue
for_user true user = user ∷ []
for_user false user = []

-- all users, or those with a flag
abbrev pub chosen : (all : Bool) → List Bool → List UserValue → List UserValue
chosen all [] users = []
chosen all (flag ∷ flags) [] = []
chosen all (flag ∷ flags) (user ∷ users) = for_user (all || flag) user ++ chosen all flags users

-- who is the first user of their root; seen are the roots before
abbrev pub first_flags : (seen : List (List ℕ)) → List UserValue → List Bool
first_flags seen [] = []
first_flags seen (user ∷ users) =
    if list_any (same_bytes (root_text user)) seen then false ∷ first_flags seen users
    else true ∷ first_flags (seen ++ root_text user ∷ []) users

-- the bytes of each key
abbrev pub key_texts : {A : Type 0} → List (Vec ℕ A) → List (List ℕ)
key_texts keys = map (λ key. key.items) keys
