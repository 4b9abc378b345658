-- What the files of a policy say.
use Rattle.std.specs.Prelude.{ℕ, ◌-◌, List, ◌++◌, length, Result, Ok, Err}
use Rattle.input_output.specs.Store.{Files}
use Rattle.file_roles.specs.declared.role.Part.TheVariants.{Base, Homedirs, Local, Subs, SubsDist}
use Rattle.file_roles.specs.declared.role.Part.TheVariants.{Customizable}
use Rattle.label_base.specs.declared.lines.LinesWhy.{LinesWhy}
use Rattle.label_base.specs.declared.lines.LinesWhy.TheVariants.{Refused, TooMany}
use Rattle.label_base.specs.declared.lines.RefusedLine.{RefusedLine}
use Rattle.file_roles.specs.Roles.{role}
use Rattle.file_roles.specs.declared.list.NamedFile.{NamedFile}
use Rattle.file_roles.specs.declared.role.FileRole.{FileRole}
use Rattle.context_syntax.specs.TypeNames.{NameSet, types_read}
use Rattle.context_syntax.specs.declared.customizable.NoTypeName.{NoTypeName}
use Rattle.spec_reader.specs.SpecLines.{specs_of}
use Rattle.spec_reader.specs.SpecValue.{SpecValue}
use Rattle.spec_reader.specs.declared.spec_fault.SpecWhy.{SpecWhy}
use Rattle.spec_order.specs.Order.{in_order}
use Rattle.path_subs.specs.Subs.{SubValue}
use Rattle.path_subs.specs.SubLines.{subs_of}
use Rattle.path_subs.specs.declared.sub_fault.NoSub.{NoSub}
use Rattle.path_subs.specs.declared.subs.Subs as both
use Rattle.run_faults.specs.declared.cause.Cause.{Cause}
use Rattle.run_faults.specs.declared.cause.Cause.TheVariants.{SpecRefused, SubRefused}
use Rattle.run_faults.specs.declared.cause.Cause.TheVariants.{CustomRefused, Limit}
use Rattle.run_faults.specs.declared.cause.LimitKind.TheVariants.{Specs}
use Rattle.run_input.specs.Files.{FilesSay, just, part_says, read_on}
use Rattle.policy_files.specs.declared.reading.TheConstants.{MOST_SPECS}

abbrev pub spec_refusal : FileRole → LinesWhy SpecWhy → Cause
spec_refusal role (Refused line) = SpecRefused role line.number line.why
spec_refusal role TooMany = Limit Specs

abbrev pub specs_from : FileRole → Result (List SpecValue) (LinesWhy SpecWhy)
    → Result (List SpecValue) Cause
specs_from role (Ok specs) = Ok specs
specs_from role (Err why) = Err (spec_refusal role why)

-- the specifications of a file, with room for so many
unfoldable pub part_specs : List NamedFile → FileRole → ℕ → Files → FilesSay (List SpecValue)
part_specs list role room files =
    read_on (part_says list role files) (λ bytes.
    just (specs_from role (specs_of role.part room bytes)))

abbrev pub subs_from : FileRole → Result (List SubValue) (RefusedLine NoSub)
    → Result (List SubValue) Cause
subs_from role (Ok subs) = Ok subs
subs_from role (Err line) = Err (SubRefused role line.number)

-- the substitutions of a file
unfoldable pub part_subs : List NamedFile → FileRole → Files → FilesSay (List SubValue)
part_subs list role files =
    read_on (part_says list role files) (λ bytes. just (subs_from role (subs_of bytes)))

abbrev pub types_from : Result NameSet (RefusedLine NoTypeName) → Result NameSet Cause
types_from (Ok types) = Ok types
types_from (Err line) = Err (CustomRefused line.number)

-- the customizable types
unfoldable pub customizable_types : List NamedFile → Files → FilesSay NameSet
customizable_types list files =
    read_on (part_says list (role Customizable 0) files) (λ bytes.
    just (types_from (types_read bytes)))

-- the specifications of a policy's three files, in the order in which the last match decides
unfoldable pub version_specs : List NamedFile → (version : ℕ) → Files → FilesSay (List SpecValue)
version_specs list version files =
    read_on (part_specs list (role Base version) MOST_SPECS files) (λ first.
    read_on (part_specs list (role Homedirs version) (MOST_SPECS - length first) files) (λ home.
    read_on (part_specs list (role Local version) (MOST_SPECS - length first - length home) files)
    (λ local. just (Ok (in_order (first ++ home ++ local))))))

-- both lists of substitutions of a policy
unfoldable pub subs_for : List NamedFile → (version : ℕ) → Files → FilesSay both.Subs
subs_for list version files =
    read_on (part_subs list (role Subs version) files) (λ first.
    read_on (part_subs list (role SubsDist version) files) (λ second.
    just (Ok (record { first = first; second = second }))))
