-- Lines of a policy, and the one that decides.
use Rattle.std.specs.Prelude.{ℕ, ◌<◌, Bool, false, List, Option, Some, None, length, map}
use Rattle.std.specs.Prelude.{slice_get}
use Rattle.std.specs.List.{find, slice_index_or}
use Rattle.label_base.specs.declared.kind.Asked.{Asked}
use Rattle.pattern_match.specs.States.{HasRoomFor}
use Rattle.pattern_syntax.specs.Tree.{Tree, Nothing}
use Rattle.policy_lists.specs.declared.line.Line.{Line}
use Rattle.spec_match.specs.LastMatch.{fits}
use Rattle.spec_reader.specs.SpecValue.{SpecValue}

abbrev pub spec_of : Line → SpecValue
spec_of line = line.spec

abbrev pub pattern_of : Line → Tree
pattern_of line = line.spec.pattern

-- the pattern of a line by its index
abbrev pub pattern_at : List Line → ℕ → Tree
pattern_at lines i = slice_index_or (map pattern_of lines) i Nothing

abbrev pub does_fit : Asked → List ℕ → Option SpecValue → Bool
does_fit asked text None = false
does_fit asked text (Some spec) = fits asked text spec

-- the line of an index fits
abbrev pub line_fits : List Line → Asked → List ℕ → ℕ → Bool
line_fits lines asked text i = does_fit asked text (slice_get (map spec_of lines) i)

-- of lines in the order in which they decide, the one that does: the first that fits
abbrev pub decided : List Line → List ℕ → Asked → List ℕ → Option ℕ
decided lines order asked text = find (line_fits lines asked text) order

-- there is room for the marks of each line's pattern
pub record HaveRoom (lines : List Line) (room : ℕ) : Type 0 where
  pub each : (i : ℕ) → i < length lines → HasRoomFor (pattern_at lines i) room

-- for each of the first lines
abbrev pub HaveRoomTo : List Line → ℕ → ℕ → Type 0
HaveRoomTo lines n room = (i : ℕ) → i < n → HasRoomFor (pattern_at lines i) room
