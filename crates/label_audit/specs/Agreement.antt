-- What an audit tells of the run that it audits, over the same files and the same input.
use Rattle.std.specs.Prelude.{◌≡◌, ◌↔◌, ℕ, List, Some, Ok, IfSome}
use Rattle.input_output.specs.Store.{Files, content}
use Rattle.run_endings.specs.declared.ending.End.TheVariants.{Done}
use Rattle.run_endings.specs.declared.ending.Ending.{Ending}
use Rattle.tree_relabelling.specs.Plan.{relabel_plan}
use Rattle.label_audit.specs.Plan.{audit_plan}
use Rattle.label_audit.specs.declared.words.AuditWords.{AuditWords}

-- the file of the report holds the run's report, and the file of -o, where the run writes one, its
-- dump
pub record HoldRun (words : AuditWords) (known : Files) (run : Ending) : Type 0 where
  pub report : content known words.report ≡ Some run.report
  pub dump : IfSome run.saved (λ saved. content known saved.name ≡ Some saved.text)

-- Where the plan of a run and the plan of its audit both answer, audit ends well exactly where the
-- files are what the run writes, whatever the options of the run are.
abbrev pub AuditTellsOfRun : Type 0
AuditTellsOfRun =
    (words : AuditWords) (known : Files) (input : List ℕ) (run audited : Ending)
    → (relabel_plan words.inner).answer known input ≡ Ok run
    → (audit_plan words).answer known input ≡ Ok audited
    → (audited.end ≡ Done) ↔ HoldRun words known run
