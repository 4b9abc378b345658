-- What a run tells, as contracts see it.
use Rattle.std.specs.Prelude.{ℕ, Bool, List, Option}
use Rattle.std.specs.Option.{option_copied}
use Rattle.file_paths.specs.Path.{Path}
use Rattle.file_paths.specs.PathRef.{path_of}
use Rattle.label_base.specs.declared.kind.EntryKind.{EntryKind}
use Rattle.context_syntax.specs.Context.{ContextValue}
use Rattle.context_syntax.specs.ContextRef.{context_lent}
use Rattle.context_syntax.specs.declared.label.Label.{Label}
use Rattle.report_text.specs.declared.message.Message.{Message}
use Rattle.report_text.specs.declared.message.Message.TheVariants as lent

-- a context that is None is <<none>>
pub data MessageValue : Type 0 where
  Relabel : (path : Path) (from : Label) (to : ContextValue) (dry : Bool) → MessageValue
  Customized : (path : Path) (label : ContextValue) → MessageValue
  Conflict : (first second : Path) (used : ContextValue) → MessageValue
  NoDefault : (path : Path) → MessageValue
  Skipped : (path : Path) → MessageValue
  Absent : (path : Path) → MessageValue
  NoMatches : (text : List ℕ) (kind : Option EntryKind) (context : Option ContextValue)
      → MessageValue
  Found : (path : Path) (context : Option ContextValue) (bare : Bool) → MessageValue
  Verified : (path : Path) → MessageValue
  Differs : (path : Path) (has : Label) (wants : ContextValue) → MessageValue
  NoRecord : (path : Path) → MessageValue

-- what a message that borrows its parts tells
abbrev pub message_of : Message → MessageValue
message_of (lent.Relabel path was becomes dry) =
    Relabel (path_of path) was.now (context_lent becomes) dry
message_of (lent.Customized path label) = Customized (path_of path) label.now
message_of (lent.Conflict first second used) = Conflict (path_of first) (path_of second) used.now
message_of (lent.NoDefault path) = NoDefault (path_of path)
message_of (lent.Skipped path) = Skipped (path_of path)
message_of (lent.Absent path) = Absent (path_of path)
message_of (lent.NoMatches text kind context) = NoMatches text.now kind (option_copied context)
message_of (lent.Found path context bare) = Found (path_of path) (option_copied context) bare
message_of (lent.Verified path) = Verified (path_of path)
message_of (lent.Differs path has wants) = Differs (path_of path) has.now wants.now
message_of (lent.NoRecord path) = NoRecord (path_of path)
