-- What is carried down a tree: the specifications that are alive behind a path's text.
use Rattle.std.specs.Prelude.{◌≡◌, Bool, List, length, map}
use Rattle.std.specs.List.{All}
use Rattle.file_paths.specs.Path.{Path, is_root_path, path_text}
use Rattle.spec_match.specs.Alive.{Alive, AreAlive, IsOwn}
use Rattle.spec_match.specs.StatesFor.{pattern_in, patterns_of}
use Rattle.spec_match.specs.declared.compiled_spec.CompiledSpec.{CompiledSpec}
use Rattle.spec_reader.specs.SpecValue.{SpecValue}

-- those that are alive, and whether the path is `/`, whose text ends with a slash
pub record Carrying : Type 0 where
  pub alive : List Alive
  pub is_root : Bool

-- the list is that of the specifications that are alive behind the text of a path, where that path
-- is `/` or isn't
abbrev pub IsAliveAt : List CompiledSpec → Bool → List Alive → Path → Type 0
IsAliveAt rules is_root list path =
    (is_root ≡ is_root_path path)
    × AreAlive (patterns_of rules) (path_text path) (length (patterns_of rules)) list

-- what is carried has states of the patterns of these specifications
unfoldable pub IsCarriedOf : List SpecValue → Carrying → Type 0
IsCarriedOf specs carried = All (IsOwn (map pattern_in specs)) carried.alive

-- it stands for the path
unfoldable pub StandsAt : List SpecValue → Carrying → Path → Type 0
StandsAt specs carried path =
    (carried.is_root ≡ is_root_path path)
    × AreAlive (map pattern_in specs) (path_text path) (length (map pattern_in specs)) carried.alive
