-- What the files of a policy say, line by line.
use Rattle.std.specs.Prelude.{List, Result, Ok, Err}
use Rattle.input_output.specs.Store.{Files}
use Rattle.file_roles.specs.Roles.{role}
use Rattle.file_roles.specs.declared.list.NamedFile.{NamedFile}
use Rattle.file_roles.specs.declared.role.FileRole.{FileRole}
use Rattle.file_roles.specs.declared.role.Part.TheVariants.{Subs, SubsDist}
use Rattle.label_base.specs.declared.lines.RefusedLine.{RefusedLine}
use Rattle.path_subs.specs.declared.sub_fault.NoSub.{NoSub}
use Rattle.spec_reader.specs.SpecValue.{SpecValue}
use Rattle.run_faults.specs.declared.cause.Cause.{Cause}
use Rattle.run_faults.specs.declared.cause.Cause.TheVariants.{SubRefused}
use Rattle.run_input.specs.Files.{FilesSay, just, part_says, read_on}
use Rattle.policy_files.specs.Files.{version_specs}
use Rattle.path_reasons.specs.SubLines.{sub_lines_of}
use Rattle.path_reasons.specs.declared.policy.PolicyLines.{PolicyLines}
use Rattle.path_reasons.specs.declared.sub_line.SubLine.{SubLine}

abbrev pub sub_lines_from : FileRole → Result (List SubLine) (RefusedLine NoSub)
    → Result (List SubLine) Cause
sub_lines_from role (Ok lines) = Ok lines
sub_lines_from role (Err line) = Err (SubRefused role line.number)

-- the substitutions of a file
unfoldable pub part_sub_lines : List NamedFile → FileRole → Files → FilesSay (List SubLine)
part_sub_lines list role files =
    read_on (part_says list role files) (λ bytes. just (sub_lines_from role (sub_lines_of bytes)))

-- those of both files
unfoldable pub both_sub_lines : List NamedFile → Files → FilesSay (List SubLine × List SubLine)
both_sub_lines list files =
    read_on (part_sub_lines list (role Subs 0) files) (λ first.
    read_on (part_sub_lines list (role SubsDist 0) files) (λ second. just (Ok (first, second))))

abbrev pub lines_with : List SpecValue → (first second : List SubLine) → PolicyLines
lines_with specs first second = record { specs = specs; first = first; second = second }

-- the lines of a policy: the specifications, then the substitutions
unfoldable pub policy_lines : List NamedFile → Files → FilesSay PolicyLines
policy_lines list files =
    read_on (version_specs list 0 files) (λ specs.
    read_on (both_sub_lines list files) (λ both. just (Ok (lines_with specs both.0 both.1))))
