-- The specification that decides: the last one that applies and whose language holds the text.
use Rattle.std.specs.Prelude.{◌≡◌, ◌<◌, ℕ, Bool, true, ◌&&◌, List, Option, Some, None, filter, map}
use Rattle.std.specs.Prelude.{slice_get}
use Rattle.std.specs.List.{enumerate_from, last_or}
use Rattle.label_base.specs.Kind.{applies}
use Rattle.label_base.specs.declared.kind.Asked.{Asked}
use Rattle.pattern_syntax.specs.Language.{In, holds}
use Rattle.spec_reader.specs.SpecValue.{SpecValue}

-- the specification applies to what is asked, and its language holds the text
abbrev pub fits : Asked → List ℕ → SpecValue → Bool
fits asked text spec = applies spec.kind asked && holds spec.pattern text

-- the last of a list
abbrev pub last_of : {A : Type 0} → List A → Option A
last_of xs = last_or None xs

-- the last member of the list that fits
unfoldable pub last_match : Asked → List ℕ → List SpecValue → Option SpecValue
last_match asked text specs = last_of (filter (fits asked text) specs)

-- the index of the last member that fits
unfoldable pub last_index : Asked → List ℕ → List SpecValue → Option ℕ
last_index asked text specs =
    last_of (map (λ p. p.0) (filter (λ p. fits asked text p.1) (enumerate_from 0 specs)))

-- the same as a relation: it applies, and the text is in its language
abbrev pub Fits : Asked → List ℕ → SpecValue → Type 0
Fits asked text spec = (applies spec.kind asked ≡ true) × In spec.pattern text

-- a specification fits, and none behind it does
pub record IsLast (asked : Asked) (text : List ℕ) (specs : List SpecValue) (i : ℕ) : Type 0 where
  pub spec : SpecValue
  pub found : slice_get specs i ≡ Some spec
  pub fits : Fits asked text spec
  pub last : (j : ℕ) (later : SpecValue) → i < j → slice_get specs j ≡ Some later
      → Fits asked text later → ⊥

-- the index is that of the last specification that fits, or none does
abbrev pub Decides : Asked → List ℕ → List SpecValue → Option ℕ → Type 0
Decides asked text specs None =
    (j : ℕ) (spec : SpecValue) → slice_get specs j ≡ Some spec → Fits asked text spec → ⊥
Decides asked text specs (Some i) = IsLast asked text specs i
