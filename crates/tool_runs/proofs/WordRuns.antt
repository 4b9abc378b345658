-- Runs over words: wrong ones, and those that a tool takes.
use Rattle.std.proofs.Common.{◌≡◌, ◌∙◌, ap, sym, subst, refl, ℕ, arith, ◌⊎◌, inl, inr, List, []}
use Rattle.std.specs.Prelude.{Bool, Option, Some, None, Result, Ok, Err, IfSome}
use Rattle.label_base.specs.Answers.{Explains}
use Rattle.label_base.specs.Answers as answers
use Rattle.label_base.specs.declared.fault.Fault.{Fault}
use Rattle.label_base.specs.declared.fault.Fault.TheVariants as faults
use Rattle.input_output.specs.Store.{Files}
use Rattle.file_roles.specs.declared.list.NamedFile.{NamedFile}
use Rattle.find_records.specs.Record.{Record}
use Rattle.find_records.specs.declared.format.Format.{Format}
use Rattle.tool_words.specs.declared.usage.Usage.{Usage}
use Rattle.tool_words.specs.declared.usage.UsageWhy.{UsageWhy}
use Rattle.run_faults.specs.Causes.{Explained, IsWritten, words_cause}
use Rattle.run_faults.specs.Faults.{fault_line}
use Rattle.run_faults.specs.declared.cause.Cause.{Cause}
use Rattle.run_faults.specs.declared.cause.Cause.TheVariants as causes
use Rattle.run_faults.specs.declared.cause.Cause.TheVariants.{ReadFault, OutOfMemory}
use Rattle.run_input.specs.Files.{FilesSay}
use Rattle.run_input.proofs.ReadsLemmas.{all_some}
use Rattle.run_endings.specs.declared.ending.Ending.{Ending}
use Rattle.tool_runs.specs.Outside.{InputSeen, Outside, SinkSeen, StoreSeen, WritesLine}
use Rattle.tool_runs.specs.Plan.{Plan, plan_by, planned}
use Rattle.tool_runs.specs.Run.{Run, WritesAndSaves}
use Rattle.tool_runs.proofs.MemoryRuns.{given_up_early}
use Rattle.tool_runs.proofs.PartLemmas.{ends_explained, line_later, reported_written}

same_usage : (a b : Usage) → a.index ≡ b.index → a.why ≡ b.why → a ≡ b
same_usage a b index why =
    ap (λ (i : ℕ). record { index = i; why = a.why }) index
    ∙ ap (λ (w : UsageWhy). record { index = b.index; why = w }) why

-- the store and the input are as they were
module _ {S I : Type 0} (store : StoreSeen S) (input : InputSeen I) (sink sink_now : SinkSeen) where
  abbrev before : Outside S I
  before = record { store = store; input = input; sink = sink }

  abbrev after : Outside S I
  after = record { store = store; input = input; sink = sink_now }

  abbrev Ended : Result Plan Usage → Cause → Type 0
  Ended asked = Run asked before after

  abbrev Line : Cause → Type 0
  Line cause = WritesLine sink sink_now (fault_line [] cause)

  refused_words : (wrong : Usage) (cause : Cause)
      → (cause ≡ causes.Usage wrong.index wrong.why) ⊎ (cause ≡ OutOfMemory)
      → (IsWritten cause → ⊥) → (cause ≡ ReadFault → ⊥)
      → Explained {V = Ending} (Err (causes.Usage wrong.index wrong.why)) cause
      → ((other : Usage) → cause ≡ causes.Usage other.index other.why → wrong ≡ other)
      → Line cause → Ended (Err wrong) cause
  refused_words wrong cause is unwritten unread explained only line =
      record {
        wrong_words = record { cause_is = is; no_file_read = refl; no_input_read = refl };
        only_wrong_words = λ other is. ap Err (only other is);
        no_records = tt;
        files_decide = tt;
        calls_made = tt;
        no_files = tt;
        is_meant = all_some store.files (λ known.
            ends_explained (Err (causes.Usage wrong.index wrong.why))
            (WritesAndSaves before after known) cause unwritten explained);
        is_meant_alone = tt;
        others_stay = refl;
        same_files = λ _. all_known store.files;
        fault_line_written = λ _. line;
        all_read = λ written. absurd (unwritten written);
        read_failed = λ is. absurd (unread is);
        write_failed = λ is. absurd (unwritten (subst IsWritten (sym is) tt));
        read_counts = omega arith;
        input_counts = omega arith;
        write_counts = omega arith;
        no_read_failed = λ _. (refl, refl);
        no_write_failed = λ _. refl;
        sink_counts = line_later sink sink_now _ line;
        no_report_failed = λ reported. absurd (unwritten (reported_written cause reported));
      }
    where
      all_known : (found : Option Files) → IfSome found (λ known. found ≡ Some known)
      all_known None = tt
      all_known (Some known) = refl

  wrong_word : (wrong : Usage) → Line (causes.Usage wrong.index wrong.why)
      → Ended (Err wrong) (causes.Usage wrong.index wrong.why)
  wrong_word wrong line =
      refused_words wrong (causes.Usage wrong.index wrong.why) (inl refl) (λ written. written)
      (λ is. absurd (cc)) refl (λ other is. same_usage wrong other (cc) (cc)) line

  module _ {W R : Type 0} (reads : W → List NamedFile) (takes : W → Option Format) (soft : W → Bool)
      (output : W → Option (List ℕ)) (read : W → Files → FilesSay R)
      (answered : W → R → List Record → Result Ending Cause) where
    abbrev plan : W → Plan
    plan w = plan_by (reads w) (takes w) (soft w) (output w) (read w) (answered w)

    no_memory : (meant : Result W Usage) (cause : Cause) → cause ≡ OutOfMemory → Line cause
        → Ended (planned plan meant) cause
    no_memory (Err wrong) cause is line =
        subst (Ended (Err wrong)) (sym is) (refused_words wrong OutOfMemory (inr refl)
        (λ written. written) (λ is. absurd (cc)) tt (λ other is. absurd (cc))
        (subst Line is line))
    no_memory (Ok w) cause is line =
        given_up_early (reads w) (takes w) (soft w) (output w) (read w) (answered w) before after
        cause is refl refl (subst Line is line)

    -- wrong words, or want of memory
    pub ended_by_words : (meant : Result W Usage) (fault : Fault Usage) (cause : Cause)
        → Explains (answers.fault_cause fault) meant
        → (cause ≡ words_cause fault) ⊎ (cause ≡ OutOfMemory) → Line cause
        → Ended (planned plan meant) cause
    ended_by_words meant fault cause explains (inr is) line = no_memory meant cause is line
    ended_by_words meant (faults.Why wrong) cause explains (inl is) line =
        subst (λ (m : Result W Usage). Ended (planned plan m) cause) (sym explains)
        (subst (Ended (Err wrong)) (sym is) (wrong_word wrong (subst Line is line)))
    ended_by_words meant faults.OutOfMemory cause explains (inl is) line =
        no_memory meant cause is line

    -- the same of a cause that is handed on
    pub ended_words : (meant : Result W Usage) (fault : Fault Usage) (given cause : Cause)
        → cause ≡ given → Explains (answers.fault_cause fault) meant
        → (given ≡ words_cause fault) ⊎ (given ≡ OutOfMemory) → Line given
        → Ended (planned plan meant) cause
    ended_words meant fault given cause same explains is line =
        subst (Ended (planned plan meant)) (sym same)
        (ended_by_words meant fault given explains is line)

module _ {S I W : Type 0} (before after : Outside S I) (plan : W → Plan) where
  -- a tool was run, and its cause handed on
  pub ended_tool : (meant : Result W Usage) (w : W) (given cause : Cause) → cause ≡ given
      → meant ≡ Ok w → Run (Ok (plan w)) before after given
      → Run (planned plan meant) before after cause
  ended_tool meant w given cause same is ran =
      subst (Run (planned plan meant) before after) (sym same)
      (subst (λ (m : Result W Usage). Run (planned plan m) before after given) (sym is) ran)
