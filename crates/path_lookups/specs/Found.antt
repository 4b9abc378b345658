-- What a look-up of paths tells, as matchpathcon(8) prints it.
use Rattle.std.specs.Prelude.{Bool, List, map, Option, Some, None}
use Rattle.file_paths.specs.Path.{Path}
use Rattle.label_base.specs.declared.kind.Asked.{Asked}
use Rattle.label_base.specs.declared.kind.Asked.TheVariants.{Any, Of}
use Rattle.label_base.specs.declared.kind.EntryKind.{EntryKind}
use Rattle.context_syntax.specs.Context.{ContextValue}
use Rattle.report_text.specs.Message.{MessageValue, Found}
use Rattle.label_rules.specs.LookUp.{given_at, index_asked}
use Rattle.label_rules.specs.declared.rules.Rules.{Rules}

-- the context that is decided for a path; none where nothing decides it, nor where its
-- specification says <<none>>
abbrev pub context_for : Rules → Path → Asked → Option ContextValue
context_for rules path asked = given_at rules.rules (index_asked rules path asked)

-- where no kind is told, specifications of every kind apply
abbrev pub any_or : Option EntryKind → Asked
any_or None = Any
any_or (Some kind) = Of kind

-- what is found for a path
abbrev pub found_message : Rules → Option EntryKind → (bare : Bool) → Path → MessageValue
found_message rules kind bare path = Found path (context_for rules path (any_or kind)) bare

-- what is found for each path
abbrev pub found_messages : Rules → Option EntryKind → (bare : Bool) → List Path → List MessageValue
found_messages rules kind bare paths = map (found_message rules kind bare) paths
