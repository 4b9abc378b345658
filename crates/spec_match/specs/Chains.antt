-- Specifications by the bytes that every text of their pattern begins with: a chain for each bucket
-- of hashes.
use Rattle.std.specs.Prelude.{◌≡◌, ℕ, suc, ◌+◌, ◌*◌, ◌%◌, ◌<◌, ◌==◌, ◌&&◌, Bool, false, List, []}
use Rattle.std.specs.Prelude.{◌∷◌, length, map, Option, Some, None, slice_get, slice_index}
use Rattle.label_base.specs.Bounded.{greatest_below}
use Rattle.label_base.specs.declared.kind.Asked.{Asked}
use Rattle.pattern_syntax.specs.Literal.{literal_start_of}
use Rattle.spec_match.specs.Alive.{pattern_at}
use Rattle.spec_match.specs.LastMatch.{fits}
use Rattle.spec_match.specs.StatesFor.{patterns_of, spec_in}
use Rattle.spec_match.specs.declared.compiled_spec.CompiledSpec.{CompiledSpec}
use Rattle.spec_match.specs.declared.starts.Starts.{Starts}
use Rattle.spec_match.specs.declared.starts.TheConstants.{BASE, MODULUS}
use Rattle.spec_reader.specs.SpecValue.{SpecValue}

-- an index as a number: one more, and 0 for none
abbrev pub link : Option ℕ → ℕ
link None = 0
link (Some i) = suc i

-- the hash of a text with a byte more
unfoldable pub mixed : ℕ → ℕ → ℕ
mixed hash byte = (hash * BASE + byte) % MODULUS

abbrev pub hashed : ℕ → List ℕ → ℕ
hashed hash [] = hash
hashed hash (byte ∷ text) = hashed (mixed hash byte) text

-- which of so many buckets a text is in
abbrev pub bucket_of : ℕ → List ℕ → ℕ
bucket_of count text = hashed 0 text % count

-- the bucket of a specification is that of its pattern's literal start
abbrev pub own_bucket : List CompiledSpec → ℕ → ℕ → ℕ
own_bucket rules count i = bucket_of count (literal_start_of (pattern_at (patterns_of rules) i))

abbrev pub is_in_bucket : List CompiledSpec → ℕ → ℕ → ℕ → Bool
is_in_bucket rules count bucket i = own_bucket rules count i == bucket

-- of the first n specifications, each bucket leads to its last one, and each of them to the one
-- before it in its bucket
pub record AreChained (rules : List CompiledSpec) (count n : ℕ) (heads previous : List ℕ) : Type 0
  where
    pub some : 0 < count
    pub buckets : length heads ≡ count
    pub all : length previous ≡ n
    pub last : (b : ℕ) → b < count
        → slice_index heads b ≡ link (greatest_below n (is_in_bucket rules count b))
    pub before : (i : ℕ) → i < n
        → slice_index previous i
        ≡ link (greatest_below i (is_in_bucket rules count (own_bucket rules count i)))

-- the starts are those of the specifications
abbrev pub AreStartsOf : List CompiledSpec → Starts → Type 0
AreStartsOf rules starts =
    AreChained rules (length starts.heads.items) (length rules)
    starts.heads.items starts.previous.items

abbrev pub does_fit : Asked → List ℕ → Option SpecValue → Bool
does_fit asked text None = false
does_fit asked text (Some spec) = fits asked text spec

-- the literal start of a specification has so many bytes
abbrev pub starts_at : List CompiledSpec → ℕ → ℕ → Bool
starts_at rules at i = length (literal_start_of (pattern_at (patterns_of rules) i)) == at

-- the specification at a place fits
abbrev pub fits_at : Asked → List ℕ → List CompiledSpec → ℕ → Bool
fits_at asked text rules i = does_fit asked text (slice_get (map spec_in rules) i)

-- it fits, and its literal start has so many bytes
abbrev pub fits_from : ℕ → Asked → List ℕ → List CompiledSpec → ℕ → Bool
fits_from at asked text rules i = starts_at rules at i && fits_at asked text rules i
