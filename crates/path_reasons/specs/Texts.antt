-- The lines of an explanation.
use Rattle.std.specs.Prelude.{ℕ, Bool, not, List, [], ◌++◌, Option, Some, None, if◌then◌else◌}
use Rattle.std.specs.Fmt.{decimal}
use Rattle.label_base.specs.Escape.{escaped}
use Rattle.label_base.specs.Kind.{names_of}
use Rattle.label_base.specs.declared.kind.EntryKind.{EntryKind}
use Rattle.file_roles.specs.Roles.{role, role_name}
use Rattle.file_roles.specs.declared.list.NamedFile.{NamedFile}
use Rattle.file_roles.specs.declared.role.Part.{Part}
use Rattle.pattern_syntax.specs.Exact.{is_exact_text}
use Rattle.spec_reader.specs.SpecValue.{SpecValue}
use Rattle.report_text.specs.Texts.{given_text, shown_path}
use Rattle.label_rules.specs.LookUp.{given_by}
use Rattle.path_reasons.specs.Members.{applies_to}
use Rattle.path_reasons.specs.declared.sub_line.SubLine.{SubLine}
use Rattle.path_reasons.specs.declared.texts.TheConstants as texts

-- a line's place in a file
abbrev pub place_text : List NamedFile → Part → ℕ → List ℕ
place_text names part line =
    escaped (role_name names (role part 0)) ++ texts.COLON.now ++ decimal line

abbrev pub spec_place : List NamedFile → SpecValue → List ℕ
spec_place names spec = place_text names spec.part spec.line

-- the type field of a specification, where it has one
abbrev pub kind_field : Option EntryKind → List ℕ
kind_field None = []
kind_field (Some kind) = texts.BLANK.now ++ (names_of kind).type_field

-- the fields of a specification
abbrev pub spec_text : SpecValue → List ℕ
spec_text spec =
    spec.text ++ kind_field spec.kind ++ texts.BLANK.now ++ given_text (given_by spec)

abbrev pub spec_line : List NamedFile → SpecValue → List ℕ
spec_line names spec =
    spec_place names spec ++ texts.MARK.now ++ spec_text spec ++ texts.LINE_FEED.now

-- ---- the line that decides

-- its place and what it gives
abbrev pub brief_end : List NamedFile → Option SpecValue → List ℕ
brief_end names None = texts.NONE.now
brief_end names (Some spec) =
    spec_place names spec ++ texts.BLANK.now ++ given_text (given_by spec)

abbrev pub decided_end : List NamedFile → Option SpecValue → List ℕ
decided_end names None = texts.NONE.now ++ texts.LINE_FEED.now
decided_end names (Some spec) = spec_line names spec

abbrev pub decided_line : List NamedFile → Option SpecValue → List ℕ
decided_line names decided = texts.DECIDED.now ++ decided_end names decided

-- ---- substitutions

abbrev pub sub_text : List NamedFile → Part → SubLine → List ℕ
sub_text names part line =
    place_text names part line.line ++ texts.MARK.now ++ shown_path line.sub.source
    ++ texts.BLANK.now ++ shown_path line.sub.target ++ texts.LINE_FEED.now

-- the line of a stage, where one applied
abbrev pub stage_line : List NamedFile → Part → Option SubLine → List ℕ
stage_line names part None = []
stage_line names part (Some line) = texts.SUBSTITUTED.now ++ sub_text names part line

-- ---- the lines that match and don't decide

-- Why one doesn't for entries of a kind: it is for another kind; it has a metacharacter, and the
-- line that decides has none; or it is earlier.
abbrev pub loss_words : EntryKind → (exact : Bool) → SpecValue → List ℕ
loss_words asked exact spec =
    if not (applies_to asked spec) then texts.OTHER_KIND.now
    else if not exact then texts.EARLIER.now
    else if is_exact_text spec.text then texts.EARLIER.now
    else texts.PATTERN.now

abbrev pub loser_line : List NamedFile → EntryKind → (exact : Bool) → SpecValue → List ℕ
loser_line names asked exact spec = loss_words asked exact spec ++ spec_line names spec
