-- A run by words that ask for rehearse.
use Rattle.std.proofs.Common.{◌≡◌, ap, subst, refl, ℕ, List, [], ◌∷◌}
use Rattle.std.specs.Prelude.{Option, Some, None, Result, Ok, Err, IfSome}
use Rattle.std.specs.Io.KnownBytes.{Appends}
use Rattle.std.proofs.lemmas.Option.{same_Some}
use Rattle.input_output.specs.Store.{Files}
use Rattle.tool_words.specs.declared.usage.Usage.{Usage}
use Rattle.run_faults.specs.Causes.{IsReported}
use Rattle.run_faults.specs.declared.cause.Cause.{Cause}
use Rattle.run_faults.specs.declared.cause.Cause.TheVariants.{Done, WalkErrors, Differs, Denied}
use Rattle.tool_runs.specs.Outside.{Outside}
use Rattle.tool_runs.specs.Plan.{Plan, answer_in, input_in, planned}
use Rattle.tool_runs.specs.Run.{EndsAsMeant, Reports, Run, WritesAndSaves}
use Rattle.policy_rehearsal.specs.Plan.{rehearse_plan}
use Rattle.policy_rehearsal.specs.Reported.{ReportKeeps, ReportKeepsLabels}
use Rattle.policy_rehearsal.specs.Words.{rehearse_words}
use Rattle.policy_rehearsal.specs.declared.words.RehearseWords.{RehearseWords}
use Rattle.policy_rehearsal.proofs.ShownLemmas.{answer_keeps}
use Rattle.relabel_commands.specs.Tools.{asked_for, plan_of, rehearse_asked, rehearse_for}
use Rattle.relabel_commands.specs.Tools.{tool_named, words_unless_wrong}
use Rattle.relabel_commands.specs.declared.runs.TheConstants.{FIRST}
use Rattle.relabel_commands.specs.declared.runs.ToolName.{ToolName}
use Rattle.relabel_commands.specs.declared.runs.ToolName.TheVariants.{Setfiles, Restorecon}
use Rattle.relabel_commands.specs.declared.runs.ToolName.TheVariants.{Matchpathcon, Genhomedircon}
use Rattle.relabel_commands.specs.declared.runs.ToolName.TheVariants.{Rehearse, Sample, Audit}

-- ---- what is asked for

planned_by : (read : Result RehearseWords Usage) (words : RehearseWords) → words_unless_wrong read
    ≡ Some words
    → planned rehearse_plan read ≡ Ok (rehearse_plan words)
planned_by (Ok asked) words is = ap (λ (w : RehearseWords). Ok (rehearse_plan w))
    (same_Some asked words is)
planned_by (Err wrong) words is = absurd cc

asked_by : (tool : Option ToolName) (texts : List (List ℕ)) (words : RehearseWords)
    → rehearse_for tool texts ≡ Some words
    → asked_for tool texts ≡ Ok (rehearse_plan words)
asked_by (Some Setfiles) texts words is = absurd cc
asked_by (Some Restorecon) texts words is = absurd cc
asked_by (Some Matchpathcon) texts words is = absurd cc
asked_by (Some Genhomedircon) texts words is = absurd cc
asked_by (Some Rehearse) texts words is = planned_by (rehearse_words FIRST texts) words is
asked_by (Some Sample) texts words is = absurd cc
asked_by (Some Audit) texts words is = absurd cc
asked_by None texts words is = absurd cc

plan_asked : (texts : List (List ℕ)) (words : RehearseWords) → rehearse_asked texts ≡ Some words
    → plan_of texts ≡ Ok (rehearse_plan words)
plan_asked [] words is = absurd cc
plan_asked (tool ∷ texts) words is = asked_by (tool_named tool) texts words is

-- ---- what is written

module _ {S I : Type 0} (before after : Outside S I) where
  abbrev IsReport : List ℕ → Type 0
  IsReport text = Appends before.sink.written after.sink.written text

  module _ (words : RehearseWords) (known : Files) (bytes : List ℕ) where
    abbrev Kept : Type 0
    Kept = ReportKeeps words known bytes IsReport

    abbrev EndsSo : Cause → Type 0
    EndsSo cause = EndsAsMeant ((rehearse_plan words).answer known bytes)
        (WritesAndSaves before after known) cause

    reported : (cause : Cause)
        → Reports ((rehearse_plan words).answer known bytes) (WritesAndSaves before after known)
        cause
        → Kept
    reported cause reports =
        answer_keeps words known bytes IsReport reports.reported reports.is_meant reports.done.whole

    ended : (cause : Cause) → IsReported cause → EndsSo cause → Kept
    ended Done kind ends = reported Done ends
    ended (WalkErrors count) kind ends = reported (WalkErrors count) ends
    ended (Differs count) kind ends = reported (Differs count) ends
    ended (Denied finding) kind ends = reported (Denied finding) ends
    ended cause kind ends = absurd kind

  module _ (cause : Cause) where
    both : (words : RehearseWords) (found : Option Files) (given : Option (List ℕ))
        → IsReported cause
        → IfSome found (λ known. IfSome given (λ bytes. EndsSo words known bytes cause))
        → IfSome found (λ known. IfSome given (λ bytes. Kept words known bytes))
    both words None given kind ends = tt
    both words (Some known) None kind ends = tt
    both words (Some known) (Some bytes) kind ends = ended words known bytes cause kind ends

    abbrev KeptLabels : RehearseWords → Type 0
    KeptLabels words = ReportKeepsLabels words before.store.files before.input.left
        before.sink.written after.sink.written cause

    -- the end that is meant, by what is asked
    abbrev Meant : Result Plan Usage → Type 0
    Meant asked = IfSome before.store.files (λ known.
        IfSome (input_in asked before.input.left) (λ bytes.
        EndsAsMeant (answer_in asked known bytes) (WritesAndSaves before after known) cause))

    kept_by : (words : RehearseWords) (asked : Result Plan Usage) → asked ≡ Ok (rehearse_plan words)
        → Meant asked → KeptLabels words
    kept_by words asked is ends = λ kind.
        both words before.store.files before.input.left kind (subst Meant is ends)

    kept_if : (asked : Option RehearseWords)
        → ((words : RehearseWords) → asked ≡ Some words → KeptLabels words)
        → IfSome asked KeptLabels
    kept_if None kept = tt
    kept_if (Some words) kept = kept words refl

    -- the labels at the end are those without skipping
    pub keeps : (texts : List (List ℕ)) → Run (plan_of texts) before after cause
        → IfSome (rehearse_asked texts) KeptLabels
    keeps texts ran = kept_if (rehearse_asked texts) (λ words is.
        kept_by words (plan_of texts) (plan_asked texts words is) ran.is_meant)
