-- What candidates are, beside how they are computed.
use Rattle.std.specs.Prelude.{◌≡◌, ◌↔◌, ℕ, ◌<◌, true, List, length}
use Rattle.std.specs.List.{AllPairs, Contains}
use Rattle.stem_index.specs.Stems.{stem_fits, stem_at}

-- these are the indices of the texts that have no stem or the name for their stem, the last first
pub record AreCandidates (stems : List (List ℕ)) (name : List ℕ)
    (candidates : List ℕ) : Type 0 where
  pub each : (i : ℕ) → Contains candidates i
      ↔ ((i < length stems) × (stem_fits name (stem_at stems i) ≡ true))
  pub falling : AllPairs (λ i j. j < i) candidates
