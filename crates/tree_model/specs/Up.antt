-- Places whose records' paths rise strictly.
use Rattle.std.specs.Prelude.{ℕ, Bool, true, ◌&&◌, nat_lt, List, [], ◌∷◌, length}
use Rattle.std.specs.Ordering.{is_lt}
use Rattle.file_paths.specs.Path.{path_cmp}
use Rattle.find_records.specs.Record.{Record}
use Rattle.tree_model.specs.Extents.{entry_at}

-- the place is one of the records', and its path is above that at the last one
abbrev pub is_next : List Record → ℕ → ℕ → Bool
is_next records last place =
    nat_lt place (length records)
    && is_lt (path_cmp (entry_at records last).path (entry_at records place).path)

abbrev pub steps_up : List Record → ℕ → List ℕ → Bool
steps_up records last [] = true
steps_up records last (place ∷ places) = is_next records last place && steps_up records place places

abbrev pub goes_up : List Record → List ℕ → Bool
goes_up records [] = true
goes_up records (place ∷ places) = nat_lt place (length records) && steps_up records place places
