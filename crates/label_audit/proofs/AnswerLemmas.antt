-- No file is written.
use Rattle.std.proofs.Common.{◌≡◌, refl, List, None}
use Rattle.std.specs.Prelude.{option_map}
use Rattle.find_records.specs.Record.{Record}
use Rattle.tool_runs.specs.Stages.{saved_name}
use Rattle.label_audit.specs.Answer.{audit_of}
use Rattle.label_audit.specs.declared.found.AuditFiles.{AuditFiles}
use Rattle.label_audit.specs.declared.words.AuditWords.{AuditWords}

pub saves_none : (words : AuditWords) (found : AuditFiles) (entries : List Record)
    → option_map saved_name (audit_of words found entries).saved ≡ None
unfolding audit_of
saves_none words found entries = refl
