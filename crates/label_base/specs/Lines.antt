-- Lines, fields, and what the lines of a file say.
use Rattle.std.specs.Prelude.{◌≡◌, ℕ, Bool, false, ◌||◌, ◌==◌, List, [], ◌∷◌, ◌++◌, length, Option}
use Rattle.std.specs.Prelude.{Some, None, Result, Ok, Err, is_ok, nat_lt, filter, take_while}
use Rattle.std.specs.Prelude.{if◌then◌else◌}
use Rattle.std.specs.List.{slice_split, enumerate_from, filter_map}
use Rattle.label_base.specs.Text.{is_nonempty}
use Rattle.label_base.specs.declared.cut.TheConstants.{BLANK, LINE_FEED, TAB}
use Rattle.label_base.specs.declared.lines.TheConstants.{COMMENT_MARK}
use Rattle.label_base.specs.declared.lines.RefusedLine.{RefusedLine}
use Rattle.label_base.specs.declared.lines.LinesWhy.{LinesWhy}
use Rattle.label_base.specs.declared.lines.LinesWhy.TheVariants.{Refused, TooMany}

-- the pieces without an empty last one
abbrev pub without_empty_last : List (List ℕ) → List (List ℕ)
without_empty_last [] = []
without_empty_last ([] ∷ []) = []
without_empty_last ((b ∷ bs) ∷ []) = (b ∷ bs) ∷ []
without_empty_last (piece ∷ next ∷ pieces) = piece ∷ without_empty_last (next ∷ pieces)

-- the lines of a text; the last may lack its line feed
abbrev pub lines_of : List ℕ → List (List ℕ)
lines_of text = without_empty_last (slice_split (λ b. b == LINE_FEED) text)

abbrev pub is_blank : ℕ → Bool
is_blank b = (b == BLANK) || (b == TAB)

-- the longest runs of bytes other than blanks
abbrev pub fields_of : List ℕ → List (List ℕ)
fields_of line = filter is_nonempty (slice_split is_blank line)

-- the fields of what is left, if anything is
abbrev pub fields_left : Option (List ℕ) → List (List ℕ)
fields_left None = []
fields_left (Some text) = fields_of text

-- ---- what the lines of a file say

-- a field begins a comment
abbrev pub is_comment : List ℕ → Bool
is_comment [] = false
is_comment (b ∷ bs) = b == COMMENT_MARK

abbrev pub some_value : {B W : Type 0} → Result B W → Result (Option B) W
some_value (Ok value) = Ok (Some value)
some_value (Err why) = Err why

-- nothing where there is no field or the first begins a comment, else what the fields mean
abbrev pub fields_said : {B W : Type 0} → (List (List ℕ) → Result B W) → List (List ℕ)
    → Result (Option B) W
fields_said meaning [] = Ok None
fields_said meaning (field ∷ fields) =
    if is_comment field then Ok None else some_value (meaning (field ∷ fields))

-- what a line says, from what the fields of the line with this number mean
abbrev pub line_said : {B W : Type 0} → (ℕ → List (List ℕ) → Result B W) → ℕ → List ℕ
    → Result (Option B) W
line_said meaning number line = fields_said (meaning number) (fields_of line)

-- a line that has a value, a line without one, a line that is refused
abbrev pub line_value : {B W : Type 0} → Result (Option B) W → Option B
line_value (Ok value) = value
line_value (Err why) = None

abbrev pub why_of : {B W : Type 0} → ℕ → Result (Option B) W → Option (RefusedLine W)
why_of number (Ok value) = None
why_of number (Err why) = Some (record { number = number; why = why })

-- the first of a list
abbrev pub first_of : {A : Type 0} → List A → Option A
first_of [] = None
first_of (x ∷ xs) = Some x

-- every refused line
abbrev pub refusals : {A B W : Type 0} → (ℕ → A → Result (Option B) W) → List (ℕ × A)
    → List (RefusedLine W)
refusals said lines = filter_map (λ l. why_of l.0 (said l.0 l.1)) lines

-- every value
abbrev pub values : {A B W : Type 0} → (ℕ → A → Result (Option B) W) → List (ℕ × A) → List B
values said lines = filter_map (λ l. line_value (said l.0 l.1)) lines

-- the values where no line is refused, else the first refusal
abbrev pub all_or_first : {B E : Type 0} → List B → Option E → Result (List B) E
all_or_first values None = Ok values
all_or_first values (Some refusal) = Err refusal

abbrev pub read_from : {A B W : Type 0} → (ℕ → A → Result (Option B) W) → ℕ → List A
    → Result (List B) (RefusedLine W)
read_from said number lines =
    all_or_first (values said (enumerate_from number lines))
    (first_of (refusals said (enumerate_from number lines)))

-- what all lines of a text say, or the first that is refused
abbrev pub lines_read : {B W : Type 0} → (ℕ → List (List ℕ) → Result B W) → List ℕ
    → Result (List B) (RefusedLine W)
lines_read meaning text = read_from (line_said meaning) 1 (lines_of text)

-- the values of the lines before the first that is refused
abbrev pub accepted : {A B W : Type 0} → (ℕ → A → Result (Option B) W) → List (ℕ × A) → List B
accepted said lines = values said (take_while (λ l. is_ok (said l.0 l.1)) lines)

abbrev pub by_line : {B W : Type 0} → Result (List B) (RefusedLine W) → Result (List B) (LinesWhy W)
by_line (Ok values) = Ok values
by_line (Err refusal) = Err (Refused refusal)

-- more values than there is room for, before any refused line, are too many; else the lines decide
abbrev pub limited : {B W : Type 0} → ℕ → List B → Result (List B) (RefusedLine W)
    → Result (List B) (LinesWhy W)
limited room values read = if nat_lt room (length values) then Err TooMany else by_line read

-- what all lines of a text say, or the first that is refused or gives one value too many
abbrev pub lines_within : {B W : Type 0} → ℕ → (ℕ → List (List ℕ) → Result B W) → List ℕ
    → Result (List B) (LinesWhy W)
lines_within room meaning text =
    limited room (accepted (line_said meaning) (enumerate_from 1 (lines_of text)))
    (lines_read meaning text)

-- values that were read before, in front
abbrev pub with_front : {B E : Type 0} → List B → Result (List B) E → Result (List B) E
with_front front (Ok values) = Ok (front ++ values)
with_front front (Err e) = Err e

-- the line is not refused, and its value, if it has one, is added
abbrev pub Adds : {B W : Type 0} → Result (Option B) W → List B → List B → Type 0
Adds (Ok None) old new = new ≡ old
Adds (Ok (Some value)) old new = new ≡ old ++ value ∷ []
Adds (Err why) old new = ⊥

-- the line is refused, or gives a value where there is no room; or memory ran out
abbrev pub Stops : {B W : Type 0} → ℕ → ℕ → ℕ → Option (LinesWhy W) → Result (Option B) W → Type 0
Stops number room count None said = Unit {0}
Stops number room count (Some (Refused line)) said = (line.number ≡ number) × (said ≡ Err line.why)
Stops {B = B} number room count (Some TooMany) said =
    (room ≡ count) × (value : B) × (said ≡ Ok (Some value))
