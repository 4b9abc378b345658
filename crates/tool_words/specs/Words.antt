-- What the words say of each letter and of the operands, and the first that is wrong.
use Rattle.std.specs.Prelude.{ℕ, ◌-◌, Bool, true, false, ◌==◌, ◌&&◌, List, [], ◌∷◌, map, Option}
use Rattle.std.specs.Prelude.{Some, None, Result, Ok, Err, if◌then◌else◌}
use Rattle.std.specs.Prelude.{String}
use Rattle.std.specs.List.{filter_map, last_or, list_any}
use Rattle.std.specs.Option.{option_and_then}
use Rattle.std.specs.String.{string_bytes}
use Rattle.std.specs.declared.alloc.Global.{Global}
use Rattle.label_base.specs.Kind.{class_kind}
use Rattle.label_base.specs.declared.kind.EntryKind.{EntryKind}
use Rattle.file_paths.specs.Path.{Path, path_read}
use Rattle.file_paths.specs.declared.path_fault.PathWhy.{PathWhy}
use Rattle.tool_words.specs.Items.{Item, items_of, wrong}
use Rattle.tool_words.specs.Tool.{Tool}
use Rattle.tool_words.specs.Values.{first_wrong, number_named}
use Rattle.tool_words.specs.declared.item.Says.{Says}
use Rattle.tool_words.specs.declared.item.Says.TheVariants.{Flag, Given, Operand}
use Rattle.tool_words.specs.declared.usage.Usage.{Usage}
use Rattle.tool_words.specs.declared.usage.UsageWhy.{UsageWhy}
use Rattle.tool_words.specs.declared.usage.UsageWhy.TheVariants.{BadNumber}

-- the words as their bytes
abbrev pub word_texts : List (String Global) → List (List ℕ)
word_texts words = map string_bytes words

-- ---- what is said

abbrev pub is_flag : ℕ → Says → Bool
is_flag letter (Flag other) = other == letter
is_flag letter says = false

abbrev pub is_letter_given : ℕ → Says → Bool
is_letter_given letter (Given v) = v.letter == letter
is_letter_given letter says = false

abbrev pub is_operand : Says → Bool
is_operand Operand = true
is_operand says = false

-- the letter stands somewhere
abbrev pub has_flag : ℕ → List Item → Bool
has_flag letter items = list_any (λ item. is_flag letter item.says) items

-- the letter has a value somewhere
abbrev pub has_value : ℕ → List Item → Bool
has_value letter items = list_any (λ item. is_letter_given letter item.says) items

-- an operand that is a path
abbrev pub has_operand : List Item → Bool
has_operand items = list_any (λ item. is_operand item.says) items

abbrev pub text_if : Bool → List ℕ → Option (List ℕ)
text_if true text = Some text
text_if false text = None

-- the values of a letter, and the operands, in their order
abbrev pub values_of : ℕ → List Item → List (List ℕ)
values_of letter items = filter_map (λ item. text_if (is_letter_given letter item.says) item.text)
    items

abbrev pub operands_of : List Item → List (List ℕ)
operands_of items = filter_map (λ item. text_if (is_operand item.says) item.text) items

-- of several values the last counts
abbrev pub value_of : ℕ → List Item → Option (List ℕ)
value_of letter items = last_or None (values_of letter items)

-- the number up to a greatest one that a letter has
abbrev pub number_given : ℕ → ℕ → List Item → Option ℕ
number_given letter most items = option_and_then (number_named most) (value_of letter items)

-- the kind of entries that a letter has
abbrev pub kind_given : ℕ → List Item → Option EntryKind
kind_given letter items = option_and_then class_kind (value_of letter items)

abbrev pub path_in : Result Path PathWhy → Option Path
path_in (Ok path) = Some path
path_in (Err why) = None

-- the paths that texts spell
abbrev pub paths_of : List (List ℕ) → List Path
paths_of texts = filter_map (λ text. path_in (path_read text)) texts

-- those of a letter's values
abbrev pub given_paths : ℕ → List Item → List Path
given_paths letter items = paths_of (values_of letter items)

-- and those of the operands
abbrev pub operand_paths : List Item → List Path
operand_paths items = paths_of (operands_of items)

-- ---- what is refused

abbrev pub usage : ℕ → UsageWhy → Usage
usage index why = record { index = index; why = why }

abbrev pub unless_wrong : {A : Type 0} → Option Usage → A → Result A Usage
unless_wrong None asked = Ok asked
unless_wrong (Some wrong) asked = Err wrong

-- what the words behind a tool's name say, the first of which has this index, or the first that is
-- wrong
abbrev pub items_read : Tool → ℕ → List (List ℕ) → Result (List Item) Usage
items_read tool index words =
    unless_wrong (first_wrong (items_of tool index words)) (items_of tool index words)

-- what the things that were read ask for, where the words say nothing wrong
abbrev pub where_read : {A : Type 0} → Result (List Item) Usage → (List Item → Result A Usage)
    → Result A Usage
where_read (Ok items) asked = asked items
where_read (Err wrong) asked = Err wrong

-- ---- a letter that may have so many values

-- for how many values there is room behind something that the words say
abbrev pub room_behind : (letter room : ℕ) → Item → ℕ
room_behind letter room item = if is_letter_given letter item.says then room - 1 else room

-- a value for which there is no room is wrong, whatever it is
abbrev pub within_room : (letter room : ℕ) → Item → Item
within_room letter room item =
    if is_letter_given letter item.says && (room == 0) then wrong BadNumber item.index else item

abbrev pub all_within : (letter room : ℕ) → List Item → List Item
all_within letter room [] = []
all_within letter room (item ∷ items) =
    within_room letter room item ∷ all_within letter (room_behind letter room item) items

-- what the words say where a letter may have at most so many values, or the first that is wrong
abbrev pub items_within : Tool → (letter most : ℕ) → ℕ → List (List ℕ) → Result (List Item) Usage
items_within tool letter most index words =
    unless_wrong (first_wrong (all_within letter most (items_of tool index words)))
    (items_of tool index words)
