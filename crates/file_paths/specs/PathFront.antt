-- The first bytes of a path's text as a number, so that of two texts the lower number has the
-- earlier path.
use Rattle.std.specs.Prelude.{◌≡◌, ℕ, zero, suc, ◌+◌, ◌*◌, ◌<◌, List, [], ◌∷◌, drop, get_or}
use Rattle.file_paths.specs.PathText.{byte_rank, IsNormal}

-- the first byte's digit to the base 512: none at the text's end, which stands before each byte
abbrev pub digit : List ℕ → ℕ
digit [] = 0
digit (b ∷ bs) = byte_rank b + 1

-- the digits of the first bytes, as many as are asked for
abbrev pub front_length : List ℕ → ℕ → ℕ
front_length text zero = 0
front_length text (suc k) = front_length text k * 512 + digit (drop k text)

-- the words of a text's first bytes; the bytes are below 256
pub record IsKey (text : List ℕ) (first second third : ℕ) : Type 0 where
  pub normal : IsNormal text
  pub bytes : (k : ℕ) → get_or text k 0 < 256
  pub first_is : first ≡ front_length text 7
  pub second_is : second ≡ front_length (drop 7 text) 7
  pub third_is : third ≡ front_length (drop 7 (drop 7 text)) 7
