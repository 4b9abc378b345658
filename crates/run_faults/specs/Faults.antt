-- The exit status of a cause, and its fault line.
use Rattle.std.specs.Prelude.{ℕ, Bool, List, [], ◌++◌, if◌then◌else◌}
use Rattle.std.specs.Fmt.{decimal}
use Rattle.label_base.specs.Escape.{escaped}
use Rattle.file_paths.specs.declared.path_fault.PathWhy.{PathWhy}
use Rattle.file_paths.specs.declared.path_fault.PathWhy.TheVariants.{Empty, PathTooLong, HasNul}
use Rattle.file_paths.specs.declared.path_fault.PathWhy.TheVariants.{NotAbsolute, DotPart}
use Rattle.find_records.specs.declared.fault.RecordWhy.{RecordWhy}
use Rattle.find_records.specs.declared.fault.RecordWhy.TheVariants as records
use Rattle.file_roles.specs.declared.role.Part.TheVariants.{Customizable, Stored, Template, Users}
use Rattle.pattern_syntax.specs.declared.pattern_fault.PatternWhy.{PatternWhy}
use Rattle.pattern_syntax.specs.declared.pattern_fault.PatternWhy.TheVariants as pattern
use Rattle.spec_reader.specs.declared.spec_fault.SpecWhy.{SpecWhy}
use Rattle.spec_reader.specs.declared.spec_fault.SpecWhy.TheVariants.{MissingContext, BadKind}
use Rattle.spec_reader.specs.declared.spec_fault.SpecWhy.TheVariants.{BadContext, BadPattern}
use Rattle.setfattr_dump.specs.declared.fault.DumpWhy.{DumpWhy}
use Rattle.setfattr_dump.specs.declared.fault.DumpWhy.TheVariants.{NoSection, BadName, NoValue}
use Rattle.setfattr_dump.specs.declared.fault.DumpWhy.TheVariants.{BadValue}
use Rattle.tool_words.specs.declared.usage.UsageWhy.{UsageWhy}
use Rattle.tool_words.specs.declared.usage.UsageWhy.TheVariants as usage
use Rattle.file_roles.specs.Roles.{role_name, role}
use Rattle.run_faults.specs.declared.cause.Cause.{Cause}
use Rattle.run_faults.specs.declared.cause.Cause.TheVariants.{Done, Usage, Missing, SpecRefused}
use Rattle.run_faults.specs.declared.cause.Cause.TheVariants.{SubRefused, CustomRefused}
use Rattle.run_faults.specs.declared.cause.Cause.TheVariants.{DumpRefused, TemplateRefused}
use Rattle.run_faults.specs.declared.cause.Cause.TheVariants.{UsersRefused, RecordRefused, Unended}
use Rattle.run_faults.specs.declared.cause.Cause.TheVariants.{Doubled, Limit, WalkErrors, Differs}
use Rattle.run_faults.specs.declared.cause.Cause.TheVariants.{Denied, ReadFault, WriteFault}
use Rattle.run_faults.specs.declared.cause.Cause.TheVariants.{OutOfMemory}
use Rattle.run_faults.specs.declared.cause.LimitKind.{LimitKind}
use Rattle.run_faults.specs.declared.cause.LimitKind.TheVariants.{File, Specs, Records, RecordBytes}
use Rattle.file_roles.specs.declared.list.NamedFile.{NamedFile}
use Rattle.run_faults.specs.declared.fault.TheConstants as texts

-- the exit status, where errors of the walk are soft or not
abbrev pub status_of : (soft : Bool) → Cause → ℕ
status_of soft Done = 0
status_of soft (WalkErrors count) = if soft then 1 else 255
status_of soft (Differs count) = 1
status_of soft (Denied finding) = 1
status_of soft ReadFault = 253
status_of soft WriteFault = 252
status_of soft OutOfMemory = 254
status_of soft cause = 255

abbrev pub usage_reason : UsageWhy → List ℕ
usage_reason usage.UnknownTool = texts.UNKNOWN_TOOL.now
usage_reason usage.UnknownOption = texts.UNKNOWN_OPTION.now
usage_reason usage.MissingValue = texts.MISSING_VALUE.now
usage_reason usage.BadNumber = texts.BAD_NUMBER.now
usage_reason usage.BadPath = texts.BAD_PATH.now
usage_reason usage.BadKind = texts.BAD_TYPE.now
usage_reason usage.MissingOperand = texts.MISSING_OPERAND.now
usage_reason usage.NoOutput = texts.NO_OUTPUT.now

-- where in a pattern's text, counted from 0, the fault stands
abbrev pub pattern_reason : PatternWhy → List ℕ
pattern_reason (pattern.Syntax place) = texts.PATTERN_SYNTAX.now ++ decimal place
pattern_reason (pattern.UnsupportedPattern place) = texts.PATTERN_UNSUPPORTED.now ++ decimal place
pattern_reason (pattern.TooDeep place) = texts.PATTERN_TOO_DEEP.now ++ decimal place
pattern_reason pattern.TooManyPositions = texts.PATTERN_TOO_MANY_POSITIONS.now

abbrev pub spec_reason : SpecWhy → List ℕ
spec_reason MissingContext = texts.MISSING_CONTEXT.now
spec_reason BadKind = texts.BAD_TYPE.now
spec_reason BadContext = texts.BAD_CONTEXT.now
spec_reason (BadPattern why) = pattern_reason why

abbrev pub dump_reason : DumpWhy → List ℕ
dump_reason NoSection = texts.NO_SECTION.now
dump_reason BadName = texts.BAD_NAME.now
dump_reason NoValue = texts.NO_VALUE.now
dump_reason BadValue = texts.BAD_VALUE.now

abbrev pub path_reason : PathWhy → List ℕ
path_reason Empty = texts.PATH_EMPTY.now
path_reason PathTooLong = texts.PATH_TOO_LONG.now
path_reason HasNul = texts.PATH_HAS_NUL.now
path_reason NotAbsolute = texts.PATH_NOT_ABSOLUTE.now
path_reason DotPart = texts.PATH_DOT_PART.now

abbrev pub record_reason : RecordWhy → List ℕ
record_reason records.MissingField = texts.MISSING_FIELD.now
record_reason records.BadType = texts.BAD_TYPE.now
record_reason records.BadNumber = texts.BAD_NUMBER.now
record_reason (records.BadPath why) = path_reason why

abbrev pub limit_text : List NamedFile → LimitKind → List ℕ
limit_text files (File of) = texts.LIMIT_BYTES.now ++ escaped (role_name files of)
limit_text files Specs = texts.LIMIT_SPECS.now
limit_text files Records = texts.LIMIT_RECORDS.now
limit_text files RecordBytes = texts.LIMIT_RECORD_BYTES.now

-- a line of a file, counted from 1
abbrev pub place_text : List ℕ → ℕ → List ℕ
place_text name line = escaped name ++ texts.LINE.now ++ decimal line

-- what stands between the program's name and the line feed
abbrev pub reason_text : List NamedFile → Cause → List ℕ
reason_text files Done = []
reason_text files (Usage index why) =
    texts.USAGE_WORD.now ++ decimal index ++ texts.COLON.now ++ usage_reason why
reason_text files (Missing name) = escaped name ++ texts.NOT_FOUND.now
reason_text files (SpecRefused of line why) =
    place_text (role_name files of) line ++ texts.COLON.now ++ spec_reason why
reason_text files (SubRefused of line) =
    place_text (role_name files of) line ++ texts.NOT_A_SUBSTITUTION.now
reason_text files (CustomRefused line) =
    place_text (role_name files (role Customizable 0)) line ++ texts.NOT_A_TYPE.now
reason_text files (DumpRefused line why) =
    place_text (role_name files (role Stored 0)) line ++ texts.COLON.now ++ dump_reason why
reason_text files (TemplateRefused line why) =
    place_text (role_name files (role Template 0)) line ++ texts.COLON.now ++ spec_reason why
reason_text files (UsersRefused line) =
    place_text (role_name files (role Users 0)) line ++ texts.NOT_A_USER.now
reason_text files (RecordRefused number why) =
    texts.RECORD.now ++ decimal number ++ texts.COLON.now ++ record_reason why
reason_text files (Unended number) = texts.RECORD.now ++ decimal number ++ texts.NOT_ENDED.now
reason_text files (Doubled first second) =
    texts.RECORDS.now ++ decimal first ++ texts.AND.now ++ decimal second ++ texts.TWO_ENTRIES.now
reason_text files (Limit which) = limit_text files which
reason_text files (WalkErrors count) = []
reason_text files (Differs count) = []
reason_text files (Denied finding) = []
reason_text files ReadFault = texts.READ_FAILED.now
reason_text files WriteFault = texts.WRITE_FAILED.now
reason_text files OutOfMemory = texts.OUT_OF_MEMORY.now

-- the line that says why a run was refused
abbrev pub fault_line : List NamedFile → Cause → List ℕ
fault_line files cause = texts.PROGRAM.now ++ reason_text files cause ++ texts.LINE_FEED.now
