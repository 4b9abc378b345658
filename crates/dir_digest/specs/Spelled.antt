-- What is spelled once for the listings of all directories.
use Rattle.std.specs.Prelude.{◌≡◌, ℕ, List, [], ◌∷◌, ◌++◌, decimal, get_or, length, map}
use Rattle.std.specs.List.{flat_map}
use Rattle.spec_reader.specs.SpecValue.{SpecValue}
use Rattle.dir_digest.specs.Listing.{listing_line}
use Rattle.dir_digest.specs.ListingBytes.{field_bytes, line_fields, shared_fields}
use Rattle.dir_digest.specs.Basis.{Basis}

-- a field, and a NUL behind it
abbrev pub nul_ended : List ℕ → List ℕ
nul_ended field = field ++ 0 ∷ []

-- the fields of a specification
abbrev pub spec_bytes : SpecValue → List ℕ
spec_bytes spec = field_bytes (line_fields (listing_line spec))

-- how many specifications there are, and the fields of each
abbrev pub specs_bytes : List SpecValue → List ℕ
specs_bytes specs = nul_ended (decimal (length specs)) ++ flat_map spec_bytes specs

-- the texts at these indices, one behind the other
abbrev pub texts_at : List (List ℕ) → List ℕ → List ℕ
texts_at texts indices = flat_map (λ i. get_or texts i []) indices

abbrev pub text_itself : List ℕ → List ℕ
text_itself text = text

-- all fields between that of the path and those of the specifications, and the fields of each
-- specification
pub record AreSpecsSpelled (t : Basis) (shared : List ℕ) (specs : List (List ℕ)) : Type 0 where
  pub shared_are : shared ≡ field_bytes (shared_fields t.force t.types t.first t.second)
  pub specs_are : specs ≡ map spec_bytes t.specs
