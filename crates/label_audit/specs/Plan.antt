-- What audit reads, and what it answers.
use Rattle.std.specs.Prelude.{ℕ, List, [], ◌∷◌, ◌++◌, Option, Some, None, Ok, false}
use Rattle.file_roles.specs.Roles.{file_named, role}
use Rattle.file_roles.specs.declared.list.NamedFile.{NamedFile}
use Rattle.file_roles.specs.declared.role.Part.TheVariants.{Output, Report}
use Rattle.tool_runs.specs.Plan.{Plan, plan_by}
use Rattle.tree_relabelling.specs.Plan.{relabel_names}
use Rattle.label_audit.specs.Answer.{audit_of}
use Rattle.label_audit.specs.Found.{audit_found}
use Rattle.label_audit.specs.declared.words.AuditWords.{AuditWords}

-- the file of the dump, where the run writes one
abbrev pub output_names : Option (List ℕ) → List NamedFile
output_names None = []
output_names (Some name) = file_named (role Output 0) name ∷ []

-- the files of the run, then its report, then its dump
abbrev pub audit_names : AuditWords → List NamedFile
audit_names words =
    relabel_names words.inner ++ file_named (role Report 0) words.report ∷ []
    ++ output_names words.inner.output

-- no file is written
abbrev pub audit_plan : AuditWords → Plan
audit_plan words = plan_by (audit_names words) (Some words.inner.options.format) false None
    (audit_found words (audit_names words))
    (λ found entries. Ok (audit_of words found entries))
