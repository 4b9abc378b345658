-- How the specifications that can decide at or below a path are found: by the bytes that the texts
-- of their patterns begin with.
use Rattle.std.specs.Prelude.{◌≡◌, ℕ, ◌<◌, ◌%◌, true, List, [], ◌∷◌, ◌++◌, length, map, Some}
use Rattle.std.specs.Prelude.{slice_get}
use Rattle.std.specs.List.{Contains}
use Rattle.file_paths.specs.Path.{Path, path_text}
use Rattle.pattern_syntax.specs.Literal.{literal_start_of}
use Rattle.spec_match.specs.Alive.{pattern_at}
use Rattle.spec_match.specs.Chains.{is_in_bucket, starts_at}
use Rattle.spec_match.specs.Fronts.{front_key}
use Rattle.spec_match.specs.Relevant.{can_decide}
use Rattle.spec_match.specs.StatesFor.{patterns_of, spec_in}
use Rattle.spec_match.specs.declared.fronts.TheConstants.{SPAN}
use Rattle.spec_match.specs.declared.compiled_spec.CompiledSpec.{CompiledSpec}
use Rattle.spec_reader.specs.SpecValue.{SpecValue}

-- the specification of an index can decide at or below the path
abbrev pub CanDecideAt : Path → List SpecValue → ℕ → Type 0
CanDecideAt path specs i =
    (spec : SpecValue) × (slice_get specs i ≡ Some spec) × (can_decide path spec ≡ true)

-- all texts below the path begin with this and a slash
abbrev pub front_text : Path → List ℕ
front_text [] = []
front_text (name ∷ names) = path_text (name ∷ names)

-- to a list of indices further ones were added that can decide, and all of those of a kind that can
pub record IsAdded (path : Path) (specs : List SpecValue) (IsOf : ℕ → Type 0) (old new : List ℕ)
    : Type 0 where
  pub kept : (i : ℕ) → Contains old i → Contains new i
  pub right : ((i : ℕ) → Contains old i → CanDecideAt path specs i)
      → (i : ℕ) → Contains new i → CanDecideAt path specs i
  pub all : (i : ℕ) → IsOf i → CanDecideAt path specs i → Contains new i

-- one of them alone
abbrev pub IsAddedOne : Path → List CompiledSpec → ℕ → List ℕ → List ℕ → Type 0
IsAddedOne path rules i = IsAdded path (map spec_in rules) (λ j. j ≡ i)

-- one of them, if its literal start has so many bytes
abbrev pub IsAddedFrom : Path → List CompiledSpec → ℕ → ℕ → List ℕ → List ℕ → Type 0
IsAddedFrom path rules at i =
    IsAdded path (map spec_in rules) (λ j. (j ≡ i) × (starts_at rules at j ≡ true))

-- those of a bucket whose literal start has so many bytes
abbrev pub AreAddedIn : Path → List CompiledSpec → ℕ → ℕ → ℕ → List ℕ → List ℕ → Type 0
AreAddedIn path rules count bucket at =
    IsAdded path (map spec_in rules)
    (λ j. (j < length rules) × (is_in_bucket rules count bucket j ≡ true)
    × (starts_at rules at j ≡ true))

-- those with whose literal start a text begins
abbrev pub AreAddedAbove : Path → List CompiledSpec → List ℕ → List ℕ → List ℕ → Type 0
AreAddedAbove path rules text =
    IsAdded path (map spec_in rules)
    (λ j. (rest : List ℕ) × (text ≡ literal_start_of (pattern_at (patterns_of rules) j) ++ rest))

-- the one of which a key is
abbrev pub IsAddedOf : Path → List CompiledSpec → ℕ → List ℕ → List ℕ → Type 0
IsAddedOf path rules key = IsAdded path (map spec_in rules) (λ j. key % SPAN ≡ j)

-- those that have a key with a hash
abbrev pub AreAddedBelow : Path → List CompiledSpec → List ℕ → ℕ → List ℕ → List ℕ → Type 0
AreAddedBelow path rules keys hash =
    IsAdded path (map spec_in rules) (λ j. Contains keys (front_key hash j))

-- the list has those that can decide, in any order
pub record AreFound (path : Path) (specs : List SpecValue) (found : List ℕ) : Type 0 where
  pub right : (i : ℕ) → Contains found i → CanDecideAt path specs i
  pub all : (i : ℕ) → CanDecideAt path specs i → Contains found i
