-- The files of a run by their roles.
use Rattle.std.specs.Prelude.{ℕ, ◌==◌, ◌&&◌, Bool, true, false, List, [], ◌∷◌, if◌then◌else◌}
use Rattle.file_roles.specs.declared.role.Part.{Part}
use Rattle.file_roles.specs.declared.role.Part.TheVariants.{Base, Homedirs, Local, Subs, SubsDist}
use Rattle.file_roles.specs.declared.role.Part.TheVariants.{Customizable, Stored, Template, Users}
use Rattle.file_roles.specs.declared.role.Part.TheVariants.{Report, Output}
use Rattle.file_roles.specs.declared.role.FileRole.{FileRole}
use Rattle.file_roles.specs.declared.role.TheConstants.{MOST_LIST_BYTES, MOST_OUTPUT_BYTES}
use Rattle.file_roles.specs.declared.role.TheConstants.{MOST_REPORT_BYTES, MOST_SPEC_BYTES}
use Rattle.file_roles.specs.declared.role.TheConstants.{MOST_STORED_BYTES}
use Rattle.file_roles.specs.declared.list.NamedFile.{NamedFile}

abbrev pub part_number : Part → ℕ
part_number Base = 0
part_number Homedirs = 1
part_number Local = 2
part_number Subs = 3
part_number SubsDist = 4
part_number Customizable = 5
part_number Stored = 6
part_number Template = 7
part_number Users = 8
part_number Report = 9
part_number Output = 10

abbrev pub same_part : Part → Part → Bool
same_part a b = part_number a == part_number b

abbrev pub role : Part → ℕ → FileRole
role part version = record { part = part; version = version }

abbrev pub same_role : FileRole → FileRole → Bool
same_role a b = same_part a.part b.part && a.version == b.version

-- the greatest number of bytes of a file
abbrev pub most_bytes : Part → ℕ
most_bytes Base = MOST_SPEC_BYTES
most_bytes Homedirs = MOST_SPEC_BYTES
most_bytes Local = MOST_SPEC_BYTES
most_bytes Subs = MOST_LIST_BYTES
most_bytes SubsDist = MOST_LIST_BYTES
most_bytes Customizable = MOST_LIST_BYTES
most_bytes Stored = MOST_STORED_BYTES
most_bytes Template = MOST_SPEC_BYTES
most_bytes Users = MOST_LIST_BYTES
most_bytes Report = MOST_REPORT_BYTES
most_bytes Output = MOST_OUTPUT_BYTES

-- an absent file counts as an empty one
abbrev pub may_be_absent : Part → Bool
may_be_absent Base = false
may_be_absent Homedirs = true
may_be_absent Local = true
may_be_absent Subs = true
may_be_absent SubsDist = true
may_be_absent Customizable = true
may_be_absent Stored = false
may_be_absent Template = false
may_be_absent Users = false
may_be_absent Report = false
may_be_absent Output = false

abbrev pub file_named : FileRole → List ℕ → NamedFile
file_named role name = record { role = role; name = name }

-- the name of the first file with a role
abbrev pub role_name : List NamedFile → FileRole → List ℕ
role_name [] role = []
role_name (file ∷ files) role =
    if same_role file.role role then file.name else role_name files role
