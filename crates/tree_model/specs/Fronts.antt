-- The path above another, and the directory that has it.
use Rattle.std.specs.Prelude.{◌≡◌, ℕ, List, [], ◌∷◌, ◌++◌, Option, Some, None, if◌then◌else◌}
use Rattle.file_paths.specs.Path.{Path}
use Rattle.find_records.specs.Record.{Record}
use Rattle.tree_model.specs.Extents.{is_directory}
use Rattle.tree_model.specs.Tree.{find_in}

-- the path is the top and one name behind it
abbrev pub IsOneBelow : Path → Path → Type 0
IsOneBelow path top = (name : List ℕ) × (path ≡ top ++ name ∷ [])

-- the index that was found, where it is a directory's
abbrev pub directory_of : List Record → Option ℕ → Option ℕ
directory_of entries None = None
directory_of entries (Some d) = if is_directory entries d then Some d else None

-- the index of the directory with a path
abbrev pub directory_in : Path → List Record → Option ℕ
directory_in path entries = directory_of entries (find_in path entries)
