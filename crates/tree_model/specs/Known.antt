-- A record that is known by its number.
use Rattle.std.specs.Prelude.{◌≡◌, ℕ, ◌-◌, ◌≤◌, List, length, get_or}
use Rattle.file_paths.specs.Path.{Path}
use Rattle.find_records.specs.Record.{Record}
use Rattle.tree_model.specs.Numbered.{Numbered}
use Rattle.find_records.specs.Places.{no_record}

-- the record with this number, from 1 on
abbrev pub with_number : List Record → ℕ → Numbered
with_number records number =
    record { number = number; item = get_or records (number - 1) no_record }

-- the number is one of theirs, and the path is that record's
pub record IsPathKnown (key : Path) (number : ℕ) (records : List Record) : Type 0 where
  pub low : 1 ≤ number
  pub high : number ≤ length records
  pub key_is : key ≡ (get_or records (number - 1) no_record).path
