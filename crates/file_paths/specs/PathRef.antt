-- What contracts see of a borrowed path.
use Rattle.std.specs.Prelude.{◌≡◌, ℕ, ◌≤◌, List, length}
use Rattle.file_paths.specs.Path.{Path, path_names, with_slashes}
use Rattle.file_paths.specs.PathText.{IsNormal}
use Rattle.file_paths.specs.declared.path_ref.PathRef.{PathRef}

-- its names
abbrev pub path_of : PathRef → Path
path_of path = path_names path.text.now

-- the text that is kept of a path that these bytes spell
abbrev pub normal_text : List ℕ → List ℕ
normal_text bytes = with_slashes (path_names bytes)

-- the text is that of the path that the bytes spell
pub record IsTextOf (bytes text : List ℕ) : Type 0 where
  pub normal : IsNormal text
  pub names_are : path_names text ≡ path_names bytes
  pub short : length text ≤ 4096
