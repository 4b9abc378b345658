-- What many records have in common: the device, the link count and the label.
use Rattle.std.specs.Prelude.{◌≡◌, ◌⊎◌, ℕ, ◌<◌, ◌^◌, List, [], ◌∷◌, ◌++◌, length, map, get_or}
use Rattle.std.specs.Prelude.{Option, None}
use Rattle.std.specs.List.{AllByRecursion}
use Rattle.context_syntax.specs.declared.label.Label.{Label}
use Rattle.context_syntax.specs.declared.label.Label.TheVariants.{Absent}
use Rattle.find_records.specs.declared.profile_row.ProfileRow.{ProfileRow}

pub record Profile : Type 0 where
  pub device : ℕ
  pub links : Option ℕ
  pub label : Label

abbrev pub profile_of : ℕ → Option ℕ → Label → Profile
profile_of device links label = record { device = device; links = links; label = label }

-- what stands where there is none
abbrev pub no_profile : Profile
no_profile = profile_of 0 None Absent

-- ---- how they are kept

-- what a row stands for
abbrev pub profile_in : List Label → ProfileRow → Profile
profile_in labels row = profile_of row.device row.links (get_or labels row.label Absent)

abbrev pub profiles_in : List Label → List ProfileRow → List Profile
profiles_in labels rows = map (profile_in labels) rows

-- the labels of the rows are there
abbrev pub AreLabelled : ℕ → List ProfileRow → Type 0
AreLabelled count rows = AllByRecursion (λ row. row.label < count) rows

-- the labels of the rows are there, and numbers of 32 bits tell them
pub record AreProfileRows (labels : List Label) (rows : List ProfileRow) : Type 0 where
  pub known : AreLabelled (length labels) rows
  pub few_labels : length labels < 2 ^ 32
  pub few : length rows < 2 ^ 32

-- the row stands behind the others, or nothing was added
abbrev pub IsWithRow : List ProfileRow → ProfileRow → List ProfileRow → Type 0
IsWithRow old row new = (new ≡ old) ⊎ (new ≡ old ++ row ∷ [])
