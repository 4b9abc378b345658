-- The lines of a report.
use Rattle.std.specs.Prelude.{ℕ, Bool, true, false, List, [], ◌++◌, Option, Some, None}
use Rattle.std.specs.List.{flat_map}
use Rattle.label_base.specs.Escape.{escaped}
use Rattle.file_paths.specs.Path.{Path, path_text}
use Rattle.label_base.specs.Kind.{names_of}
use Rattle.label_base.specs.declared.kind.EntryKind.{EntryKind}
use Rattle.context_syntax.specs.Context.{ContextValue, context_text}
use Rattle.context_syntax.specs.declared.label.Label.{Label}
use Rattle.context_syntax.specs.declared.label.Label.TheVariants as label
use Rattle.spec_reader.specs.declared.line.TheConstants.{NO_CONTEXT}
use Rattle.report_text.specs.declared.words.TheConstants.{AND, CLOSE, COMMA, CONFLICTING, FROM}
use Rattle.report_text.specs.declared.words.TheConstants.{FULL_STOP, HAS_CONTEXT, HAS_NO_RECORD}
use Rattle.report_text.specs.declared.words.TheConstants.{LINE_FEED, NO_DEFAULT, NO_LABEL}
use Rattle.report_text.specs.declared.words.TheConstants.{NO_MATCHES, NO_RECORD_FOR, NOT_RESET}
use Rattle.report_text.specs.declared.words.TheConstants.{RELABELED, SHOULD_BE, SKIPPING, TAB, TO}
use Rattle.report_text.specs.declared.words.TheConstants.{USING, VERIFIED, WOULD_RELABEL}
use Rattle.report_text.specs.Message.{MessageValue, Relabel, Customized, Conflict, NoDefault}
use Rattle.report_text.specs.Message.{Skipped, Absent, NoMatches, Found, Verified, Differs}
use Rattle.report_text.specs.Message.{NoRecord}

-- a context in its spelling, another label escaped
abbrev pub label_text : Label → List ℕ
label_text label.Absent = NO_LABEL.now
label_text (label.Odd bytes) = escaped bytes
label_text (label.Is context) = context_text context

-- what a specification gives
abbrev pub given_text : Option ContextValue → List ℕ
given_text None = NO_CONTEXT.now
given_text (Some context) = context_text context

abbrev pub shown_path : Path → List ℕ
shown_path path = escaped (path_text path)

abbrev pub relabelled_words : Bool → List ℕ
relabelled_words true = WOULD_RELABEL.now
relabelled_words false = RELABELED.now

-- the type field of a specification, where it has one, and a comma
abbrev pub kind_words : Option EntryKind → List ℕ
kind_words None = []
kind_words (Some kind) = (names_of kind).type_field ++ COMMA.now

-- the path before what a look-up found
abbrev pub found_words : Path → Bool → List ℕ
found_words path true = []
found_words path false = shown_path path ++ TAB.now

-- what a message says
abbrev pub message_text : MessageValue → List ℕ
message_text (Relabel path was becomes dry) =
    relabelled_words dry ++ shown_path path ++ FROM.now ++ label_text was ++ TO.now
    ++ context_text becomes
message_text (Customized path label) = shown_path path ++ NOT_RESET.now ++ context_text label
message_text (Conflict first second used) =
    CONFLICTING.now ++ shown_path first ++ AND.now ++ shown_path second ++ USING.now
    ++ context_text used ++ FULL_STOP.now
message_text (NoDefault path) = NO_DEFAULT.now ++ shown_path path
message_text (Skipped path) = SKIPPING.now ++ shown_path path ++ CLOSE.now
message_text (Absent path) = NO_RECORD_FOR.now ++ shown_path path
message_text (NoMatches text kind given) =
    NO_MATCHES.now ++ text ++ COMMA.now ++ kind_words kind ++ given_text given ++ CLOSE.now
message_text (Found path given bare) = found_words path bare ++ given_text given
message_text (Verified path) = shown_path path ++ VERIFIED.now
message_text (Differs path has wants) =
    shown_path path ++ HAS_CONTEXT.now ++ label_text has ++ SHOULD_BE.now ++ context_text wants
message_text (NoRecord path) = shown_path path ++ HAS_NO_RECORD.now

-- the line of a message, with its line feed
abbrev pub message_line : MessageValue → List ℕ
message_line message = message_text message ++ LINE_FEED.now

-- the lines of all messages
unfoldable pub report_of : List MessageValue → List ℕ
report_of messages = flat_map message_line messages
