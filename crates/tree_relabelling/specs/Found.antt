-- What the files say that setfiles and restorecon read.
use Rattle.std.specs.Prelude.{ℕ, List, [], Option, Some, None, Result, Ok, Err}
use Rattle.input_output.specs.Store.{Files}
use Rattle.file_roles.specs.declared.role.Part.TheVariants.{Stored}
use Rattle.label_base.specs.declared.lines.RefusedLine.{RefusedLine}
use Rattle.file_roles.specs.Roles.{role}
use Rattle.file_roles.specs.declared.list.NamedFile.{NamedFile}
use Rattle.setfattr_dump.specs.Reading.{dump_read}
use Rattle.setfattr_dump.specs.declared.dump.Dump.{Dump}
use Rattle.setfattr_dump.specs.declared.dump.Section.{Section}
use Rattle.setfattr_dump.specs.declared.fault.DumpWhy.{DumpWhy}
use Rattle.label_rules.specs.declared.rules.Rules.{Rules}
use Rattle.run_faults.specs.declared.cause.Cause.{Cause}
use Rattle.run_faults.specs.declared.cause.Cause.TheVariants.{DumpRefused}
use Rattle.run_input.specs.Files.{FilesSay, just, part_says, read_on}
use Rattle.policy_files.specs.Rules.{rules_for}
use Rattle.tree_relabelling.specs.declared.found.RelabelFiles.{RelabelFiles}
use Rattle.tree_relabelling.specs.declared.words.RelabelWords.{RelabelWords}

abbrev pub dump_from : Result (List Section) (RefusedLine DumpWhy) → Result Dump Cause
dump_from (Ok sections) = Ok (record { sections = sections })
dump_from (Err refused) = Err (DumpRefused refused.number refused.why)

-- the dump that has the stored digests
unfoldable pub stored_dump : List NamedFile → Files → FilesSay Dump
stored_dump list files =
    read_on (part_says list (role Stored 0) files) (λ bytes. just (dump_from (dump_read bytes)))

abbrev pub stored_in : Option (List ℕ) → List NamedFile → Files → FilesSay Dump
stored_in None list files = just (Ok (record { sections = [] }))
stored_in (Some name) list files = stored_dump list files

-- no digests are stored where none are asked for
abbrev pub stored_for : RelabelWords → List NamedFile → Files → FilesSay Dump
stored_for words = stored_in words.stored

-- the rules and the stored digests that the files give, or the first refusal
unfoldable pub found_for : RelabelWords → List NamedFile → Files → FilesSay RelabelFiles
found_for words list files =
    read_on (rules_for list files) (λ rules.
    read_on (stored_for words list files) (λ stored.
    just (Ok (record { rules = rules; stored = stored }))))
