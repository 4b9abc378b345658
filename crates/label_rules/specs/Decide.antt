-- How a label is decided, as restorecon(8) tells it.
use Rattle.std.specs.Prelude.{Bool, true, false, Option, Some, None, if◌then◌else◌}
use Rattle.label_base.specs.Text.{same_bytes}
use Rattle.context_syntax.specs.Context.{ContextValue, same_context, with_kind_of}
use Rattle.context_syntax.specs.TypeNames.{NameSet, set_has_name}
use Rattle.context_syntax.specs.declared.label.Label.{Label}
use Rattle.context_syntax.specs.declared.label.Label.TheVariants.{Absent, Odd, Is}

-- What becomes of a label: it stays; it stays as one that an administrator chose, since its type is
-- customizable; or it gives way to a context.
pub data VerdictValue : Type 0 where
  Keep : VerdictValue
  Customized : VerdictValue
  Change : ContextValue → VerdictValue

-- by force a context gives way to every other one
abbrev pub whole_verdict : (current wanted : ContextValue) → VerdictValue
whole_verdict current wanted = if same_context current wanted then Keep else Change wanted

-- else its type alone gives way, unless it is the wanted type or a customizable one
abbrev pub type_verdict : NameSet → (current wanted : ContextValue) → VerdictValue
type_verdict types current wanted =
    if same_bytes current.kind wanted.kind then Keep
    else if set_has_name types current.kind then Customized
    else Change (with_kind_of current wanted)

abbrev pub verdict_on : (force : Bool) → NameSet → (current wanted : ContextValue) → VerdictValue
verdict_on true types current wanted = whole_verdict current wanted
verdict_on false types current wanted = type_verdict types current wanted

-- the verdict on a label where a context is wanted; a label that is absent or odd always gives way
abbrev pub verdict_for : Label → ContextValue → (force : Bool) → NameSet → VerdictValue
verdict_for Absent wanted force types = Change wanted
verdict_for (Odd bytes) wanted force types = Change wanted
verdict_for (Is current) wanted force types = verdict_on force types current wanted

-- the label after a verdict
abbrev pub label_by : VerdictValue → Label → Label
label_by Keep label = label
label_by Customized label = label
label_by (Change context) label = Is context

abbrev pub is_change : VerdictValue → Bool
is_change Keep = false
is_change Customized = false
is_change (Change context) = true

-- the context that a verdict gives
abbrev pub given_in : VerdictValue → Option ContextValue
given_in Keep = None
given_in Customized = None
given_in (Change context) = Some context
