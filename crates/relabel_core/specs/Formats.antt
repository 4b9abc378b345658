-- Entries with link counts, and without.
use Rattle.std.specs.Prelude.{◌≡◌, ℕ, ◌<◌, Bool, true, false, List, length, is_some}
use Rattle.find_records.specs.Record.{Record}
use Rattle.find_records.specs.declared.format.Format.{Format}
use Rattle.find_records.specs.declared.format.Format.TheVariants.{One, Two}
use Rattle.tree_model.specs.Extents.{entry_at}

-- records of the format have link counts
abbrev pub has_links : Format → Bool
has_links One = false
has_links Two = true

-- each entry has a link count exactly where records of the format have one
abbrev pub HaveLinks : Format → List Record → Type 0
HaveLinks format entries = (e : ℕ) → e < length entries
    → is_some (entry_at entries e).links ≡ has_links format
