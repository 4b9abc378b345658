-- The words of audit: the name of a report, then the words of a run.
use Rattle.std.specs.Prelude.{ℕ, ◌+◌, List, [], ◌∷◌, Result, Ok, Err, if◌then◌else◌}
use Rattle.label_base.specs.Text.{is_nonempty, same_bytes}
use Rattle.tool_words.specs.Words.{usage}
use Rattle.tool_words.specs.declared.usage.Usage.{Usage}
use Rattle.tool_words.specs.declared.usage.UsageWhy.TheVariants.{BadPath, MissingOperand}
use Rattle.tool_words.specs.declared.usage.UsageWhy.TheVariants.{UnknownTool}
use Rattle.tree_relabelling.specs.Words.{restorecon_words, setfiles_words}
use Rattle.tree_relabelling.specs.declared.TheConstants.{RESTORECON, SETFILES}
use Rattle.tree_relabelling.specs.declared.words.RelabelWords.{RelabelWords}
use Rattle.label_audit.specs.declared.words.AuditWords.{AuditWords}

-- what the words behind the name of the run's tool ask for, which has this index
abbrev pub tool_words : List ℕ → ℕ → List (List ℕ) → Result RelabelWords Usage
tool_words tool index words =
    if same_bytes tool SETFILES.now then setfiles_words (index + 1) words
    else if same_bytes tool RESTORECON.now then restorecon_words (index + 1) words
    else Err (usage index UnknownTool)

-- what the words of the run ask for, the first of which has this index
abbrev pub run_words : ℕ → List (List ℕ) → Result RelabelWords Usage
run_words first [] = Err (usage first UnknownTool)
run_words first (tool ∷ words) = tool_words tool first words

abbrev pub asked_with : List ℕ → Result RelabelWords Usage → Result AuditWords Usage
asked_with report (Ok inner) = Ok (record { report = report; inner = inner })
asked_with report (Err wrong) = Err wrong

-- what words ask for, the first of which has this index, or the first that is wrong
abbrev pub audit_words : ℕ → List (List ℕ) → Result AuditWords Usage
audit_words first [] = Err (usage first MissingOperand)
audit_words first (report ∷ words) =
    if is_nonempty report
    then asked_with report (run_words (first + 1) words)
    else Err (usage first BadPath)
