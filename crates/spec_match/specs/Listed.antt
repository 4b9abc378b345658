-- The lists of a table. Where a specification decides whatever text goes on with the bytes that
-- were read, none before it need be listed.
use Rattle.std.specs.Prelude.{◌≡◌, ℕ, ◌⊎◌, ◌++◌, Bool, true, List, length, Some, None, slice_get}
use Rattle.pattern_match.specs.Onwards.{AreTextBytes, TakesAll}
use Rattle.pattern_syntax.specs.Tree.{Tree}
use Rattle.spec_match.specs.Alive.{Alive, AreAliveFrom}
use Rattle.spec_reader.specs.SpecValue.{SpecValue}

-- the specification of an index fits the text and each text that begins with it, whatever kind is
-- asked for
pub record Covers (specs : List SpecValue) (text : List ℕ) (i : ℕ) : Type 0 where
  pub spec : SpecValue
  pub found : slice_get specs i ≡ Some spec
  pub any : spec.kind ≡ None
  pub holds : TakesAll spec.pattern text

-- from which specification on a list has those that are alive
abbrev pub IsFloor : Bool → List SpecValue → List ℕ → ℕ → Type 0
IsFloor cuts specs text floor = (floor ≡ 0) ⊎ ((cuts ≡ true) × Covers specs text floor)

-- the list is one for the text: from a floor on it has each specification that is alive
pub record IsListed (cuts : Bool) (patterns : List Tree) (specs : List SpecValue) (text : List ℕ)
    (list : List Alive) : Type 0 where
  pub floor : ℕ
  pub is_floor : IsFloor cuts specs text floor
  pub alive : AreAliveFrom patterns text floor (length patterns) list

-- a list that is for some text is for each longer one too
abbrev pub Stays : (List ℕ → List Alive → Type 0) → List Alive → Type 0
Stays IsFor list =
    (text rest : List ℕ) → AreTextBytes rest → IsFor text list → IsFor (text ++ rest) list
