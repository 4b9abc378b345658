-- Records with other labels.
use Rattle.std.specs.Prelude.{◌≡◌, ℕ, ◌<◌, ◌^◌, List, [], ◌∷◌, length, get_or}
use Rattle.context_syntax.specs.declared.label.Label.{Label}
use Rattle.context_syntax.specs.declared.label.Label.TheVariants.{Absent}
use Rattle.find_records.specs.Profiles.{AreLabelled, Profile, profiles_in}
use Rattle.find_records.specs.Record.{Record}
use Rattle.find_records.specs.Rows.{AreWithin, records_in}
use Rattle.find_records.specs.declared.profile_row.ProfileRow.{ProfileRow}
use Rattle.find_records.specs.declared.row.RecordRow.{RecordRow}

-- the record with this label
abbrev pub with_label : Label → Record → Record
with_label label r = record r { label = label }

-- the records, each with the label whose number stands at its place
abbrev pub with_labels : List Label → List ℕ → List Record → List Record
with_labels labels [] records = []
with_labels labels (number ∷ numbers) [] = []
with_labels labels (number ∷ numbers) (r ∷ rs) =
    with_label (get_or labels number Absent) r ∷ with_labels labels numbers rs

-- ---- how they are kept

-- the new rows stand for the records of the rows with these labels, by these rows of profiles
pub record ArePaired (texts : List ℕ) (profiles : List Profile) (rows : List RecordRow)
    (numbers : List ℕ) (labels : List Label) (own : List ProfileRow) (new : List RecordRow)
    : Type 0 where
  pub known : AreLabelled (length labels) own
  pub few : length own < 2 ^ 32
  pub counted : length new ≡ length rows
  pub same : records_in texts (profiles_in labels own) new
      ≡ with_labels labels numbers (records_in texts profiles rows)
  pub within : AreWithin texts (profiles_in labels own) new
