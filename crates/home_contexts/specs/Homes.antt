-- The lines that a template gives for users, and the text that they make.
use Rattle.std.specs.Prelude.{◌≡◌, ℕ, ◌+◌, Bool, true, false, nat_lt, List, [], ◌∷◌, ◌++◌, length}
use Rattle.std.specs.Prelude.{map, take, Option, Some, None, Result, Ok, Err, if◌then◌else◌}
use Rattle.std.specs.List.{filter_map, flat_map, list_any}
use Rattle.label_base.specs.Lines.{fields_of, first_of, is_comment, lines_of}
use Rattle.label_base.specs.Text.{same_bytes}
use Rattle.label_base.specs.declared.cut.TheConstants.{LINE_FEED, TAB}
use Rattle.file_roles.specs.declared.role.Part.TheVariants.{Homedirs}
use Rattle.label_base.specs.declared.lines.RefusedLine.{RefusedLine}
use Rattle.file_paths.specs.Path.{path_text}
use Rattle.spec_reader.specs.SpecLines.{spec_of_fields, specs_of}
use Rattle.spec_reader.specs.SpecValue.{SpecValue}
use Rattle.spec_reader.specs.declared.spec_fault.SpecWhy.{SpecWhy}
use Rattle.home_contexts.specs.User.{UserValue}
use Rattle.home_contexts.specs.Words.{filled, holds_word, is_other, is_root_word, root_of}
use Rattle.home_contexts.specs.declared.homes_fault.HomesWhy.{HomesWhy}
use Rattle.home_contexts.specs.declared.homes_fault.HomesWhy.TheVariants.{Refused, TooLong}
use Rattle.home_contexts.specs.declared.homes_fault.HomesWhy.TheVariants.{TooManySpecs}
use Rattle.home_contexts.specs.declared.limits.TheConstants.{MOST_SPECS, MOST_TEXT_BYTES}
use Rattle.home_contexts.specs.declared.word.Word.{Word}

-- ---- a given line

-- the fields of a template's line, three at most, with a user's values in place
abbrev pub filled_fields : UserValue → List (List ℕ) → List (List ℕ)
filled_fields user [] = []
filled_fields user (pattern ∷ others) =
    filled true user pattern ∷ map (filled false user) (take 2 others)

-- a tab before each
abbrev pub tabbed : List (List ℕ) → List ℕ
tabbed fields = flat_map (λ field. TAB ∷ field) fields

-- the fields parted by one tab, and a line feed
abbrev pub line_text : List (List ℕ) → List ℕ
line_text [] = LINE_FEED ∷ []
line_text (field ∷ others) = field ++ (tabbed others ++ LINE_FEED ∷ [])

-- ---- for whom a line is given

abbrev pub root_text : UserValue → List ℕ
root_text user = path_text (root_of user.home)

-- the users whose root no user before them has; seen are the roots before
abbrev pub first_by_root : (seen : List (List ℕ)) → List UserValue → List UserValue
first_by_root seen [] = []
first_by_root seen (user ∷ users) =
    if list_any (same_bytes (root_text user)) seen then first_by_root seen users
    else user ∷ first_by_root (seen ++ root_text user ∷ []) users

-- some of the first three fields holds such a word
abbrev pub hold : (Word → Bool) → List (List ℕ) → Bool
hold p fields = list_any (holds_word p) (take 3 fields)

-- each user; where HOME_ROOT alone of the words stands in the line, the first user of each root;
-- without words nobody
abbrev pub users_for : List UserValue → List (List ℕ) → List UserValue
users_for users fields =
    if hold is_other fields then users
    else if hold is_root_word fields then first_by_root [] users
    else []

-- ---- all given lines

-- the fields of a line that is given, and the number of the template's line that gives it
pub record Given : Type 0 where
  pub number : ℕ
  pub fields : List (List ℕ)

abbrev pub given_to : List UserValue → ℕ → List (List ℕ) → List Given
given_to users number fields =
    map (λ user. record { number = number; fields = filled_fields user fields }) users

-- a comment gives no line
abbrev pub given_by_fields : List UserValue → ℕ → List (List ℕ) → List Given
given_by_fields users number [] = []
given_by_fields users number (field ∷ fields) =
    if is_comment field then []
    else given_to (users_for users (field ∷ fields)) number (field ∷ fields)

-- those of the template's lines from this number on
abbrev pub given_from : List UserValue → ℕ → List (List ℕ) → List Given
given_from users number [] = []
given_from users number (line ∷ lines) =
    given_by_fields users number (fields_of line) ++ given_from users (number + 1) lines

abbrev pub given_lines : List ℕ → List UserValue → List Given
given_lines template users = given_from users 1 (lines_of template)

-- ---- the text

-- the line of one home
abbrev pub home_line : Given → List ℕ
home_line given = line_text given.fields

-- the file of homes
abbrev pub homes_text : List Given → List ℕ
homes_text given = flat_map home_line given

abbrev pub is_long : Given → Bool
is_long given = nat_lt MOST_TEXT_BYTES (length (home_line given))

abbrev pub refusal_of : ℕ → Result SpecValue SpecWhy → Option (RefusedLine SpecWhy)
refusal_of number (Ok spec) = None
refusal_of number (Err why) = Some (record { number = number; why = why })

-- the given line alone, as a line of file_contexts, is refused
abbrev pub refusal : Given → Option (RefusedLine SpecWhy)
refusal given = refusal_of given.number (spec_of_fields Homedirs 1 given.fields)

abbrev pub first_refusal : List Given → Option (RefusedLine SpecWhy)
first_refusal given = first_of (filter_map refusal given)

-- the text, where neither its lines nor its bytes are too many
abbrev pub within_limits : List Given → Result (List ℕ) HomesWhy
within_limits given =
    if nat_lt MOST_SPECS (length given) then Err TooManySpecs
    else if nat_lt MOST_TEXT_BYTES (length (homes_text given)) then Err TooLong
    else Ok (homes_text given)

abbrev pub unless_refused : Option (RefusedLine SpecWhy) → List Given → Result (List ℕ) HomesWhy
unless_refused (Some refused) given = Err (Refused refused)
unless_refused None given = within_limits given

-- a line that is too long alone comes first, then the first refused line, then the limits of all
abbrev pub text_or_fault : List Given → Result (List ℕ) HomesWhy
text_or_fault given =
    if list_any is_long given then Err TooLong else unless_refused (first_refusal given) given

-- what a template gives for users
abbrev pub expansion : List ℕ → List UserValue → Result (List ℕ) HomesWhy
expansion template users = text_or_fault (given_lines template users)

-- the text is read as a file of homes, one specification for each line
pub record IsReadBack (text : List ℕ) : Type 0 where
  pub specs : List SpecValue
  pub read : specs_of Homedirs MOST_SPECS text ≡ Ok specs
  pub one_each : length specs ≡ length (lines_of text)
