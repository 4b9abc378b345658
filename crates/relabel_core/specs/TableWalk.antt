-- The walk entry by entry, with a table of the groups' winners, as one may think of it that keeps
-- a running state. A law says that it makes the labels and the lines of `Walk`; nothing else cites
-- it.
use Rattle.std.specs.Prelude.{ℕ, zero, suc, List, [], ◌∷◌, ◌++◌, ◌==◌, Option, Some, None, is_some}
use Rattle.std.specs.Prelude.{if◌then◌else◌}
use Rattle.std.specs.List.{cons_option}
use Rattle.context_syntax.specs.declared.label.Label.{Label}
use Rattle.tree_model.specs.Groups.{group_of}
use Rattle.report_text.specs.Message.{MessageValue}
use Rattle.relabel_core.specs.Walk.{Walk, walk_count, label_with, line_with, wanted}

-- the winner of each group that has one so far
abbrev pub Table : Type 0
Table = ℕ → Option ℕ

abbrev pub no_winners : Table
no_winners = λ g. None

abbrev pub first_entered : Option ℕ → ℕ → Option ℕ
first_entered None e = Some e
first_entered (Some k) e = Some k

-- the entry enters at the group, where nothing is there yet
abbrev pub table_put : Table → ℕ → ℕ → Table
table_put table group e = λ g. if group == g then first_entered (table g) e else table g

-- an entry for which a context is decided enters at its group
abbrev pub table_entered : Walk → Table → ℕ → Table
table_entered w table e = if is_some (wanted w e) then table_put table (group_of w.entries e)
    e else table

-- what was made so far
pub record Made : Type 0 where
  pub winners : Table
  pub labels : List Label
  pub lines : List MessageValue

-- one entry more: its label and its line are made at once from the winner that its group has now
abbrev pub made_with : Walk → ℕ → Table → Made → Made
made_with w e winners made = record {
  winners = winners;
  labels = made.labels ++ label_with w e (winners (group_of w.entries e)) ∷ [];
  lines = made.lines ++ cons_option (line_with w e (winners (group_of w.entries e))) [];
}

-- what is made of the entries below n
abbrev pub made_below : Walk → ℕ → Made
made_below w zero = record { winners = no_winners; labels = []; lines = [] }
made_below w (suc n) =
    made_with w n (table_entered w (made_below w n).winners n) (made_below w n)

-- what is made of all entries
abbrev pub table_walk : Walk → Made
table_walk w = made_below w (walk_count w)
