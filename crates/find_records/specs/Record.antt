-- What one record says of an entry: the fields that find(1) prints for %y %D %i %n %Z %p. A record
-- of the first format lacks the link count (%n).
use Rattle.std.specs.Prelude.{◌≡◌, ℕ, List, Option, None, IsSome}
use Rattle.std.specs.List.{AllByRecursion}
use Rattle.file_paths.specs.Path.{Path}
use Rattle.label_base.specs.declared.kind.EntryKind.{EntryKind}
use Rattle.context_syntax.specs.declared.label.Label.{Label}
use Rattle.find_records.specs.declared.format.Format.{Format}
use Rattle.find_records.specs.declared.format.Format.TheVariants.{One, Two}

-- the device is the number of the one on which the entry lies, the inode its number there, the link
-- count how many names that inode has
pub record Record : Type 0 where
  pub kind : EntryKind
  pub device : ℕ
  pub inode : ℕ
  pub links : Option ℕ
  pub label : Label
  pub path : Path

-- there is a link count exactly where the format has one
abbrev pub CountsBy : Format → Option ℕ → Type 0
CountsBy One links = links ≡ None
CountsBy Two links = IsSome links

-- all these records are of the format
abbrev pub AreOfFormat : Format → List Record → Type 0
AreOfFormat format records = AllByRecursion (λ r. CountsBy format r.links) records
