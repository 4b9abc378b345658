-- The label of an inode, as a record or an attribute spells it.
use Rattle.std.specs.Prelude.{ℕ, Bool, true, false, List, [], ◌∷◌, Option, Some, None}
use Rattle.std.specs.Prelude.{if◌then◌else◌}
use Rattle.label_base.specs.Text.{same_bytes}
use Rattle.context_syntax.specs.Context.{ContextValue, context_of, same_context}
use Rattle.context_syntax.specs.declared.label.TheConstants.{NO_LABEL}
use Rattle.context_syntax.specs.declared.label.Label.{Label}
use Rattle.context_syntax.specs.declared.label.Label.TheVariants.{Absent, Odd, Is}

abbrev pub label_from : List ℕ → Option ContextValue → Label
label_from bytes None = Odd bytes
label_from bytes (Some c) = Is c

-- no bytes and a question mark are no label; a context is read as one; all else is kept as it is
abbrev pub label_of : List ℕ → Label
label_of [] = Absent
label_of (b ∷ bs) =
    if same_bytes (b ∷ bs) NO_LABEL.now then Absent else label_from (b ∷ bs) (context_of (b ∷ bs))

abbrev pub same_label : Label → Label → Bool
same_label Absent Absent = true
same_label (Odd a) (Odd b) = same_bytes a b
same_label (Is a) (Is b) = same_context a b
same_label a b = false
