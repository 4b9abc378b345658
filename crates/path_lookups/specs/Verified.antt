-- Whether paths have the labels that they should have, as matchpathcon(8) tells it with -V.
use Rattle.std.specs.Prelude.{ℕ, Bool, true, false, List, filter, length, map, Option, Some, None}
use Rattle.std.specs.Prelude.{if◌then◌else◌}
use Rattle.file_paths.specs.Path.{Path}
use Rattle.label_base.specs.declared.kind.Asked.{Asked}
use Rattle.label_base.specs.declared.kind.Asked.TheVariants.{Of}
use Rattle.label_base.specs.declared.kind.EntryKind.{EntryKind}
use Rattle.context_syntax.specs.Context.{ContextValue, same_but_user}
use Rattle.context_syntax.specs.declared.label.Label.{Label}
use Rattle.context_syntax.specs.declared.label.Label.TheVariants.{Absent, Odd, Is}
use Rattle.find_records.specs.Record.{Record}
use Rattle.tree_model.specs.Extents.{entry_at}
use Rattle.tree_model.specs.Groups.{group_of, label_in}
use Rattle.tree_model.specs.Tree.{find_in}
use Rattle.report_text.specs.Message.{MessageValue, Differs, NoRecord, Verified}
use Rattle.path_lookups.specs.Found.{context_for}
use Rattle.label_rules.specs.declared.rules.Rules.{Rules}

-- the label is a context that equals this one but for the user
abbrev pub is_but_user : Label → ContextValue → Bool
is_but_user Absent wanted = false
is_but_user (Odd bytes) wanted = false
is_but_user (Is context) wanted = same_but_user context wanted

-- a path with this label, for which this is decided; where nothing is, any label will do
abbrev pub label_message : Path → Label → Option ContextValue → MessageValue
label_message path label None = Verified path
label_message path label (Some wanted) =
    if is_but_user label wanted then Verified path else Differs path label wanted

-- the kind that is told, or else this one
abbrev pub kind_or : Option EntryKind → EntryKind → Asked
kind_or None kind = Of kind
kind_or (Some asked) kind = Of asked

-- a path whose entry has this index
abbrev pub entry_message : Rules → List Record → Option EntryKind → Path → Option ℕ → MessageValue
entry_message rules entries kind path None = NoRecord path
entry_message rules entries kind path (Some e) =
    label_message path (label_in entries (group_of entries e))
    (context_for rules path (kind_or kind (entry_at entries e).kind))

-- whether a path has the label that it should have
abbrev pub verified_message : Rules → List Record → Option EntryKind → Path → MessageValue
verified_message rules entries kind path =
    entry_message rules entries kind path (find_in path entries)

-- the same of each path
abbrev pub verified_messages : Rules → List Record → Option EntryKind → List Path
    → List MessageValue
verified_messages rules entries kind paths = map (verified_message rules entries kind) paths

-- the path has another label than it should have, or no record
abbrev pub is_unverified : MessageValue → Bool
is_unverified (Differs path has wants) = true
is_unverified (NoRecord path) = true
is_unverified message = false

-- how many of the messages say so
abbrev pub count_unverified : List MessageValue → ℕ
count_unverified messages = length (filter is_unverified messages)
