-- Lists of nodes, each told by its number.
use Rattle.std.specs.Prelude.{◌≡◌, ℕ, ◌<◌, List, [], ◌∷◌, ◌++◌, length, map}
use Rattle.std.specs.List.{slice_index_or}
use Rattle.policy_lists.specs.Lists.{IsListOf, ListLeadsTo}
use Rattle.policy_lists.specs.Nodes.{AreNodes}
use Rattle.policy_lists.specs.Rows.{AreRowNumbers, rows_at}
use Rattle.policy_lists.specs.declared.line.Line.{Line}
use Rattle.policy_lists.specs.declared.numbered.Lists.{Lists}

-- a list as its nodes
abbrev pub NodeList : Type 0
NodeList = List (List ℕ)

abbrev pub lists_by : List (List ℕ) → List (List ℕ) → List NodeList
lists_by nodes rows = map (rows_at nodes) rows

abbrev pub lists_in : Lists → List NodeList
lists_in l = lists_by l.nodes.rows l.rows

abbrev pub list_at : List NodeList → ℕ → NodeList
list_at lists n = slice_index_or lists n []

-- each row has numbers of nodes
abbrev pub AllNumbers : List (List ℕ) → List (List ℕ) → Type 0
AllNumbers nodes [] = Unit {0}
AllNumbers nodes (row ∷ rows) = AreRowNumbers nodes row × AllNumbers nodes rows

pub record AreLists (lines : List Line) (l : Lists) : Type 0 where
  pub nodes : AreNodes lines l.nodes
  pub each : AllNumbers l.nodes.rows l.rows

-- further lists behind the others
abbrev pub AreFurther : List NodeList → List NodeList → Type 0
AreFurther old new = (more : List NodeList) × (new ≡ old ++ more)

-- the number is that of the list of a policy before the first byte of a text
pub record IsStarted (lines : List Line) (order : List ℕ) (number : ℕ) (old new : List NodeList)
    : Type 0 where
  pub further : AreFurther old new
  pub within : number < length new
  pub list : IsListOf lines order [] (list_at new number)

-- the number is that of the list to which a byte leads
pub record IsLed (lines : List Line) (byte from to : ℕ) (old new : List NodeList) : Type 0 where
  pub further : AreFurther old new
  pub within : to < length new
  pub leads : ListLeadsTo lines byte (list_at old from) (list_at new to)
