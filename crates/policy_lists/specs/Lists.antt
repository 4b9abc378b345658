-- Lists of nodes: the lines of a policy that can still decide behind a text, in the order in which
-- they do.
use Rattle.std.specs.Prelude.{◌≡◌, ℕ, ◌<◌, ◌⊎◌, ◌++◌, ◌∷◌, Bool, false, true, List, [], Some, None}
use Rattle.std.specs.Prelude.{length, map}
use Rattle.label_base.specs.declared.kind.Asked.{Asked}
use Rattle.pattern_match.specs.Onwards.{AreTextBytes}
use Rattle.policy_lists.specs.Lines.{decided}
use Rattle.policy_lists.specs.Nodes.{Covers, LeadsTo, StandsAt, line_of}
use Rattle.policy_lists.specs.Rows.{row_at}
use Rattle.policy_lists.specs.declared.line.Line.{Line}

abbrev pub AllStandAt : List Line → List ℕ → List (List ℕ) → Type 0
AllStandAt lines text [] = Unit {0}
AllStandAt lines text (node ∷ list) = StandsAt lines text node × AllStandAt lines text list

abbrev pub lines_of : List (List ℕ) → List ℕ
lines_of list = map line_of list

-- the list is that of a policy behind a text: its nodes stand for the text, and whatever follows,
-- its lines decide as those of the policy
pub record IsListOf (lines : List Line) (order text : List ℕ) (list : List (List ℕ)) : Type 0 where
  pub stand : AllStandAt lines text list
  pub decide : (asked : Asked) (rest : List ℕ) → AreTextBytes rest
      → decided lines (lines_of list) asked (text ++ rest)
      ≡ decided lines order asked (text ++ rest)

-- a byte leads from one list to another, behind whatever text the first is the list of a policy
abbrev pub ListLeadsTo : List Line → ℕ → List (List ℕ) → List (List ℕ) → Type 0
ListLeadsTo lines byte from to =
    (order text : List ℕ) → IsListOf lines order text from
    → IsListOf lines order (text ++ byte ∷ []) to

-- each line is one of so many
abbrev pub AreWithin : ℕ → List ℕ → Type 0
AreWithin count [] = Unit {0}
AreWithin count (line ∷ order) = (line < count) × AreWithin count order

-- a byte leads from a node to none, and nothing was written
pub record IsOneDropped (lines : List Line) (byte : ℕ) (from old new : List ℕ) (ends : Bool)
    : Type 0 where
  pub same : new ≡ old
  pub dead : LeadsTo lines byte from None
  pub on : ends ≡ false

-- the node to which it leads was written
pub record IsOneWritten (lines : List Line) (byte : ℕ) (from : List ℕ) (nodes : List (List ℕ))
    (old new : List ℕ) (ends : Bool) : Type 0 where
  pub node : ℕ
  pub within : node < length nodes
  pub more : new ≡ old ++ node ∷ []
  pub leads : LeadsTo lines byte from (Some (row_at nodes node))
  pub covers : ends ≡ true → Covers lines (row_at nodes node)

abbrev pub IsOneStepped : List Line → ℕ → List ℕ → List (List ℕ) → List ℕ → List ℕ → Bool → Type 0
IsOneStepped lines byte from nodes old new ends =
    IsOneDropped lines byte from old new ends ⊎ IsOneWritten lines byte from nodes old new ends
