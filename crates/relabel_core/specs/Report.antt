-- The texts of a walk's report, and how its parts are made.
use Rattle.std.specs.Prelude.{◌≡◌, ℕ, ◌<◌, Bool, true, false, List, [], length, nat_lt, get_or}
use Rattle.std.specs.Prelude.{if◌then◌else◌, map, set, slice_get, Option, Some, None}
use Rattle.std.specs.List.{filter_map}
use Rattle.label_base.specs.Bounded.{all_numbers, any_below}
use Rattle.file_paths.specs.Path.{Path}
use Rattle.report_text.specs.Message.{MessageValue, Absent}
use Rattle.report_text.specs.Texts.{message_line, report_of}
use Rattle.relabel_core.specs.Walk.{Walk, deciding, is_found_at, line_of_spec}
use Rattle.relabel_core.specs.Walked.{operands_indexed}
use Rattle.label_rules.specs.declared.rules.Rules.{Rules}

-- the line of a message, where there is one
abbrev pub optional_text : Option MessageValue → List ℕ
optional_text None = []
optional_text (Some message) = message_line message

-- the lines that the numbers below n have
abbrev pub text_below : (ℕ → Option MessageValue) → ℕ → List ℕ
text_below line n = report_of (filter_map line (all_numbers n))

-- the lines of absent operands
abbrev pub absent_text : List Path → List ℕ → List ℕ
absent_text operands indices = report_of (map Absent (operands_indexed operands indices))

-- a flag raised at an index, where there is one
abbrev pub raised_at : List Bool → Option ℕ → List Bool
raised_at flags None = flags
raised_at flags (Some i) = if nat_lt i (length flags) then set flags i true else flags

-- the line of a specification whose flag is not raised
abbrev pub unflagged_line : Rules → List Bool → ℕ → Option MessageValue
unflagged_line rules flags i =
    if get_or flags i false then None else line_of_spec (slice_get rules.rules i)

-- a flag is raised for each specification that decides an entry below n
pub record AreRaised (w : Walk) (n : ℕ) (flags : List Bool) : Type 0 where
  pub each_spec : length flags ≡ length w.rules.rules
  pub raised : (i : ℕ) → i < length w.rules.rules
      → get_or flags i false ≡ any_below n (λ e. is_found_at (deciding w e) i)
