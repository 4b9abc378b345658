-- The lines of a substitution file, each with its number.
use Rattle.std.specs.Prelude.{ℕ, List, Result, Ok, Err}
use Rattle.label_base.specs.Lines.{lines_read}
use Rattle.label_base.specs.declared.lines.RefusedLine.{RefusedLine}
use Rattle.path_subs.specs.SubLines.{sub_in}
use Rattle.path_subs.specs.Subs.{SubValue}
use Rattle.path_subs.specs.declared.sub_fault.NoSub.{NoSub}
use Rattle.path_reasons.specs.declared.sub_line.SubLine.{SubLine}

-- the substitution without its number
abbrev pub sub_of : SubLine → SubValue
sub_of line = line.sub

abbrev pub numbered : ℕ → Result SubValue NoSub → Result SubLine NoSub
numbered number (Ok sub) = Ok (record { sub = sub; line = number })
numbered number (Err why) = Err why

-- what the fields of the line with this number say
abbrev pub sub_line_in : ℕ → List (List ℕ) → Result SubLine NoSub
sub_line_in number fields = numbered number (sub_in fields)

-- the lines of a file, or the first that is refused
abbrev pub sub_lines_of : List ℕ → Result (List SubLine) (RefusedLine NoSub)
sub_lines_of text = lines_read sub_line_in text
