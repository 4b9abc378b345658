-- Rows that stand for records: each has its path's text in one text, and its device, link
-- count and label among profiles.
use Rattle.std.specs.Prelude.{◌≡◌, ℕ, ◌+◌, ◌<◌, ◌≤◌, ◌^◌, List, [], ◌∷◌, length, map, take, drop}
use Rattle.std.specs.Prelude.{get_or}
use Rattle.std.specs.List.{AllByRecursion}
use Rattle.file_paths.specs.Path.{path_names}
use Rattle.file_paths.specs.PathText.{IsNormal}
use Rattle.find_records.specs.Profiles.{Profile, no_profile}
use Rattle.find_records.specs.Places.{records_at}
use Rattle.find_records.specs.Record.{Record}
use Rattle.find_records.specs.declared.row.RecordRow.{RecordRow}

-- the text of a row's path
abbrev pub row_text : List ℕ → RecordRow → List ℕ
row_text texts row = take row.size (drop row.at texts)

-- the record of a row
abbrev pub record_in : List ℕ → List Profile → RecordRow → Record
record_in texts profiles row = record {
  kind = row.kind;
  device = (get_or profiles row.profile no_profile).device;
  inode = row.inode;
  links = (get_or profiles row.profile no_profile).links;
  label = (get_or profiles row.profile no_profile).label;
  path = path_names (row_text texts row);
}

abbrev pub records_in : List ℕ → List Profile → List RecordRow → List Record
records_in texts profiles rows = map (record_in texts profiles) rows

-- the row's text and profile are there
pub record IsRowWithin (texts : List ℕ) (profiles : List Profile) (row : RecordRow) : Type 0 where
  pub fits : row.at + row.size ≤ length texts
  pub normal : IsNormal (row_text texts row)
  pub known : row.profile < length profiles

abbrev pub AreWithin : List ℕ → List Profile → List RecordRow → Type 0
AreWithin texts profiles [] = Unit {0}
AreWithin texts profiles
    (row ∷ rows) = IsRowWithin texts profiles row × AreWithin texts profiles rows

pub record AreRecordRows (texts : List ℕ) (profiles : List Profile)
    (rows : List RecordRow) : Type 0 where
  pub within : AreWithin texts profiles rows
  pub numbered : length rows < 2 ^ 32

-- ---- rows that are laid anew

-- the texts of the rows are there
abbrev pub Fit : List ℕ → List RecordRow → Type 0
Fit texts rows = AllByRecursion (λ row. row.at + row.size ≤ length texts) rows

-- the row, where its path's text stands at another place
abbrev pub moved_to : ℕ → RecordRow → RecordRow
moved_to place row = record row { at = place }

-- the new rows stand for the records at the places
pub record AreLaid (texts : List ℕ) (profiles : List Profile) (rows : List RecordRow)
    (places : List ℕ)
    (new_texts : List ℕ) (new_rows : List RecordRow) : Type 0 where
  pub same : records_in new_texts profiles new_rows
      ≡ records_at (records_in texts profiles rows) places
  pub within : AreWithin new_texts profiles new_rows
