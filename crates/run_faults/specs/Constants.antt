-- What the constants of this crate are, in letters: the texts of fault lines.
use Rattle.std.specs.Prelude.{◌≡◌, codes}
use Rattle.run_faults.specs.declared.fault.TheConstants as texts

pub record ConstantsAreStated : Type 0 where
  -- what a line begins and ends with
  pub program : texts.PROGRAM.now ≡ codes "relabel: "
  pub line_feed : texts.LINE_FEED.now ≡ codes "\n"
  -- what stands between names, numbers and reasons
  pub usage_word : texts.USAGE_WORD.now ≡ codes "usage: word "
  pub line : texts.LINE.now ≡ codes ": line "
  pub colon : texts.COLON.now ≡ codes ": "
  pub not_found : texts.NOT_FOUND.now ≡ codes ": not found"
  pub not_a_substitution : texts.NOT_A_SUBSTITUTION.now ≡ codes ": not a substitution"
  pub not_a_type : texts.NOT_A_TYPE.now ≡ codes ": not a type"
  pub not_a_user : texts.NOT_A_USER.now ≡ codes ": not a user"
  pub record_number : texts.RECORD.now ≡ codes "record "
  pub not_ended : texts.NOT_ENDED.now ≡ codes ": not ended"
  pub record_numbers : texts.RECORDS.now ≡ codes "records "
  pub and : texts.AND.now ≡ codes " and "
  pub two_entries : texts.TWO_ENTRIES.now ≡ codes ": one path, two entries"
  -- limits
  pub limit_bytes : texts.LIMIT_BYTES.now ≡ codes "limit: bytes of "
  pub limit_specs : texts.LIMIT_SPECS.now ≡ codes "limit: specifications"
  pub limit_records : texts.LIMIT_RECORDS.now ≡ codes "limit: records"
  pub limit_record_bytes : texts.LIMIT_RECORD_BYTES.now ≡ codes "limit: bytes of input"
  -- failed calls
  pub read_failed : texts.READ_FAILED.now ≡ codes "read failed"
  pub write_failed : texts.WRITE_FAILED.now ≡ codes "write failed"
  pub out_of_memory : texts.OUT_OF_MEMORY.now ≡ codes "out of memory"
  -- reasons of words
  pub unknown_tool : texts.UNKNOWN_TOOL.now ≡ codes "unknown tool"
  pub unknown_option : texts.UNKNOWN_OPTION.now ≡ codes "unknown option"
  pub missing_value : texts.MISSING_VALUE.now ≡ codes "missing value"
  pub bad_number : texts.BAD_NUMBER.now ≡ codes "bad number"
  pub bad_path : texts.BAD_PATH.now ≡ codes "bad path"
  pub bad_type : texts.BAD_TYPE.now ≡ codes "bad type"
  pub missing_operand : texts.MISSING_OPERAND.now ≡ codes "missing operand"
  pub no_output : texts.NO_OUTPUT.now ≡ codes "needs -n or -o"
  -- reasons of specifications, beside that of a bad type
  pub missing_context : texts.MISSING_CONTEXT.now ≡ codes "missing context"
  pub bad_context : texts.BAD_CONTEXT.now ≡ codes "bad context"
  pub pattern_syntax : texts.PATTERN_SYNTAX.now ≡ codes "pattern: syntax at "
  pub pattern_unsupported : texts.PATTERN_UNSUPPORTED.now ≡ codes "pattern: unsupported at "
  pub pattern_too_deep : texts.PATTERN_TOO_DEEP.now ≡ codes "pattern: too deep at "
  pub pattern_too_many : texts.PATTERN_TOO_MANY_POSITIONS.now
      ≡ codes "pattern: too many positions"
  -- reasons of dumps
  pub no_section : texts.NO_SECTION.now ≡ codes "no section"
  pub bad_name : texts.BAD_NAME.now ≡ codes "bad name"
  pub no_value : texts.NO_VALUE.now ≡ codes "no value"
  pub bad_value : texts.BAD_VALUE.now ≡ codes "bad value"
  -- reasons of records, beside those of a bad type and a bad number
  pub missing_field : texts.MISSING_FIELD.now ≡ codes "missing field"
  pub path_empty : texts.PATH_EMPTY.now ≡ codes "path: empty"
  pub path_too_long : texts.PATH_TOO_LONG.now ≡ codes "path: too long"
  pub path_has_nul : texts.PATH_HAS_NUL.now ≡ codes "path: has NUL"
  pub path_not_absolute : texts.PATH_NOT_ABSOLUTE.now ≡ codes "path: not absolute"
  pub path_dot_part : texts.PATH_DOT_PART.now ≡ codes "path: dot part"
