-- The specifications that can decide at or below a path.
use Rattle.std.specs.Prelude.{ℕ, Bool, List, filter, map}
use Rattle.std.specs.List.{enumerate_from}
use Rattle.file_paths.specs.Path.{Path}
use Rattle.pattern_match.specs.Quotients.{holds_below}
use Rattle.spec_reader.specs.SpecValue.{SpecValue}

-- the language of the specification holds the path or something below it
abbrev pub can_decide : Path → SpecValue → Bool
can_decide path spec = holds_below spec.pattern path

-- the indices of such members of the list, in ascending order
unfoldable pub relevant_at : Path → List SpecValue → List ℕ
relevant_at path specs = map (λ p. p.0) (filter (λ p. can_decide path p.1) (enumerate_from 0 specs))
