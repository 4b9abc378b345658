-- The records at places among others.
use Rattle.std.specs.Prelude.{ℕ, ◌<◌, List, [], map, get_or, None}
use Rattle.std.specs.List.{AllByRecursion}
use Rattle.label_base.specs.declared.kind.EntryKind.TheVariants.{Regular}
use Rattle.context_syntax.specs.declared.label.Label.TheVariants.{Absent}
use Rattle.find_records.specs.Record.{Record}

-- what stands where there is no record
abbrev pub no_record : Record
no_record =
    record { kind = Regular; device = 0; inode = 0; links = None; label = Absent; path = [] }

-- the records at these places
abbrev pub records_at : List Record → List ℕ → List Record
records_at records places = map (λ place. get_or records place no_record) places

-- the places are those of so many
abbrev pub ArePlaces : ℕ → List ℕ → Type 0
ArePlaces count places = AllByRecursion (λ place. place < count) places
