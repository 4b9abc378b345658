-- What the files say that audit reads.
use Rattle.std.specs.Prelude.{ℕ, List, Option, Some, None, Ok}
use Rattle.input_output.specs.Store.{Files}
use Rattle.file_roles.specs.Roles.{role}
use Rattle.file_roles.specs.declared.list.NamedFile.{NamedFile}
use Rattle.file_roles.specs.declared.role.Part.TheVariants.{Output, Report}
use Rattle.run_input.specs.Files.{FilesSay, just, part_says, read_on}
use Rattle.tree_relabelling.specs.Found.{found_for}
use Rattle.tree_relabelling.specs.Plan.{relabel_names}
use Rattle.tree_relabelling.specs.declared.found.RelabelFiles.{RelabelFiles}
use Rattle.tree_relabelling.specs.declared.words.RelabelWords.{RelabelWords}
use Rattle.label_audit.specs.declared.found.AuditFiles.{AuditFiles}
use Rattle.label_audit.specs.declared.words.AuditWords.{AuditWords}

-- what the files of the run say
abbrev pub run_found : RelabelWords → Files → FilesSay RelabelFiles
run_found words = found_for words (relabel_names words)

-- the file of the dump
unfoldable pub given_dump : List NamedFile → Files → FilesSay (Option (List ℕ))
given_dump list files =
    read_on (part_says list (role Output 0) files) (λ bytes. just (Ok (Some bytes)))

-- the dump, where the run writes one
abbrev pub dump_for : Option (List ℕ) → List NamedFile → Files → FilesSay (Option (List ℕ))
dump_for None list files = just (Ok None)
dump_for (Some name) list files = given_dump list files

-- the files of the run, then its report, then its dump, or the first refusal
unfoldable pub audit_found : AuditWords → List NamedFile → Files → FilesSay AuditFiles
audit_found words list files =
    read_on (run_found words.inner files) (λ run.
    read_on (part_says list (role Report 0) files) (λ report.
    read_on (dump_for words.inner.output list files) (λ dump.
    just (Ok (record { run = run; report = report; dump = dump })))))
