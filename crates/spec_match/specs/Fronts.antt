-- The fronts of literal starts that end with a slash, each as its hash and the index of its
-- specification.
use Rattle.std.specs.Prelude.{◌≡◌, ℕ, ◌+◌, ◌*◌, ◌==◌, Bool, true, List, [], ◌∷◌, ◌++◌}
use Rattle.std.specs.Prelude.{if◌then◌else◌}
use Rattle.std.specs.List.Sorted.{IsNonDecreasing, IsPermutation}
use Rattle.file_paths.specs.declared.path.TheConstants.{SLASH}
use Rattle.pattern_syntax.specs.Literal.{literal_start_of}
use Rattle.pattern_syntax.specs.Tree.{Tree}
use Rattle.spec_match.specs.Chains.{mixed}
use Rattle.spec_match.specs.declared.fronts.TheConstants.{SPAN}

abbrev pub front_key : ℕ → ℕ → ℕ
front_key hash i = hash * SPAN + i

-- the key of a front with this hash, if it ends with this byte
abbrev pub key_if : ℕ → ℕ → ℕ → List ℕ
key_if byte hash i = if byte == SLASH then front_key hash i ∷ [] else []

-- the keys of one literal start behind bytes with a hash
abbrev pub front_keys : ℕ → ℕ → List ℕ → List ℕ
front_keys i hash [] = []
front_keys i hash (byte ∷ start) =
    key_if byte (mixed hash byte) i ++ front_keys i (mixed hash byte) start

-- those of all specifications from an index on
abbrev pub all_keys : ℕ → List Tree → List ℕ
all_keys i [] = []
all_keys i (pattern ∷ patterns) =
    front_keys i 0 (literal_start_of pattern) ++ all_keys (i + 1) patterns

-- the keys are those of all specifications, in ascending order
pub record AreFronts (patterns : List Tree) (keys : List ℕ) : Type 0 where
  pub same : IsPermutation (all_keys 0 patterns) keys
  pub rising : IsNonDecreasing keys

-- they are, where they were made
abbrev pub AreFrontsIf : List Tree → Bool → List ℕ → Type 0
AreFrontsIf patterns are_made keys = are_made ≡ true → AreFronts patterns keys
