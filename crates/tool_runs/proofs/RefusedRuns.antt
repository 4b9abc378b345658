-- A run whose files or input are refused.
use Rattle.std.proofs.Common.{◌≡◌, ap, sym, subst, ℕ, arith, ◌⊎◌, inl, inr, List, []}
use Rattle.std.specs.Prelude.{Bool, Option, Result, Ok, Err}
use Rattle.input_output.specs.Store.{Files}
use Rattle.file_roles.specs.declared.list.NamedFile.{NamedFile}
use Rattle.find_records.specs.Record.{Record}
use Rattle.find_records.specs.declared.format.Format.{Format}
use Rattle.run_faults.specs.Causes.{CauseCounts, Explained, IsFileCause, IsInputCause}
use Rattle.run_faults.specs.Faults.{fault_line}
use Rattle.run_faults.specs.declared.cause.Cause.{Cause}
use Rattle.run_faults.specs.declared.cause.Cause.TheVariants.{OutOfMemory}
use Rattle.run_input.specs.Files.{FilesSay}
use Rattle.run_input.specs.Records.{input_for}
use Rattle.run_input.proofs.ReadsLemmas.{all_some}
use Rattle.run_endings.specs.Endings.{writes_of}
use Rattle.run_endings.specs.declared.ending.Ending.{Ending}
use Rattle.tool_runs.specs.Outside.{InputSeen, Outside, WritesLine}
use Rattle.tool_runs.specs.Plan.{answer_by, plan_by, refusal_in}
use Rattle.tool_runs.specs.Run.{Run, Writes, WritesAndSaves}
use Rattle.tool_runs.proofs.InputStage.{InputRead}
use Rattle.tool_runs.proofs.PartLemmas.{FilesRead, all_up_to, cause_up_to, counts_calm}
use Rattle.tool_runs.proofs.PartLemmas.{counts_later, ends_explained, file_calls, file_explains}
use Rattle.tool_runs.proofs.PartLemmas.{files_accepted, files_memory, files_refused, if_some}
use Rattle.tool_runs.proofs.PartLemmas.{input_calls, input_explains, input_later, line_later}
use Rattle.tool_runs.proofs.PartLemmas.{reported_written, same_known, stay_same, unwritten_file}
use Rattle.tool_runs.proofs.PartLemmas.{unwritten_input}
use Rattle.tool_runs.proofs.MemoryRuns.{accepted_memory, gave_up}

module _ {S I R : Type 0} (reads : List NamedFile) (takes : Option Format) (soft : Bool)
    (output : Option (List ℕ))
    (read : Files → FilesSay R) (answered : R → List Record → Result Ending Cause)
    (before after : Outside S I) where
  abbrev Ran : Cause → Type 0
  Ran = Run (Ok (plan_by reads takes soft output read answered)) before after

  abbrev says : Files → Result R Cause
  says known = (read known).says

  taken : after.input ≡ before.input → after.input.faults ≡ before.input.faults
  taken still = ap (λ (input : InputSeen I). input.faults) still

  abbrev Fault_line : Cause → Type 0
  Fault_line cause = WritesLine before.sink after.sink (fault_line reads cause)

  -- a refused file
  refused_file : (cause : Cause)
      → FilesRead read before.store after.store (Err cause)
      → (reads ≡ [] → after.store ≡ before.store)
      → (reads ≡ [] → (known : Files) → Explained (says known) cause)
      → after.input ≡ before.input → Fault_line cause → Ran cause
  refused_file cause ended unread alone still line =
      record {
        wrong_words = tt;
        only_wrong_words = λ wrong is. absurd (subst IsFileCause is ended.kinds);
        no_records = λ _. still;
        files_decide = if_some before.store.files (λ known explained.
            files_refused before after (says known) cause explained ended.kinds still)
            ended.gives;
        calls_made = if_some before.store.files (λ known.
            file_calls before.store.calls after.store.calls (read known).opened (writes_of output)
            cause ended.kinds) ended.opens;
        no_files = λ none _. unread none;
        is_meant = if_some before.store.files (λ known explained.
            all_some (input_for takes before.input.left) (λ bytes.
            ends_explained (answer_by takes says answered known bytes)
            (WritesAndSaves before after known) cause (unwritten_file cause ended.kinds)
            (file_explains takes says answered known bytes cause explained))) ended.gives;
        is_meant_alone = λ none known.
            all_some (input_for takes before.input.left) (λ bytes.
            ends_explained (answer_by takes says answered known bytes) (Writes before after) cause
            (unwritten_file cause ended.kinds)
            (file_explains takes says answered known bytes cause (alone none known)));
        others_stay = stay_same before.store.files after.store.files output ended.same;
        same_files = λ _. same_known before.store.files after.store.files ended.same;
        fault_line_written = λ _. line;
        all_read = λ written. absurd (unwritten_file cause ended.kinds written);
        read_failed = λ is. inl (record {
          rose = (subst (CauseCounts before.store.read_faults after.store.read_faults) is
              ended.counts).1;
          no_input_read = still;
        });
        write_failed = λ is. absurd (subst IsFileCause is ended.kinds);
        read_counts =
            counts_later before.store.read_faults after.store.read_faults cause ended.counts;
        input_counts = omega (arith, taken still);
        write_counts = omega (arith, ended.unwritten);
        no_read_failed = λ calm. (
          counts_calm before.store.read_faults after.store.read_faults cause ended.counts calm,
          taken still,
        );
        no_write_failed = λ _. ended.unwritten;
        sink_counts = line_later before.sink after.sink _ line;
        no_report_failed = λ reported. absurd (unwritten_file cause ended.kinds
            (reported_written cause reported));
      }

  -- a refusal of the input
  refused_input : (cause : Cause) (found : R)
      → FilesRead read before.store after.store (Ok found)
      → InputRead takes before.input after.input (Err cause) → IsInputCause cause
      → (reads ≡ [] → after.store ≡ before.store)
      → (reads ≡ [] → (known : Files) → says known ≡ Ok found) → Fault_line cause → Ran cause
  refused_input cause found accepted entries kind unread alone line =
      record {
        wrong_words = tt;
        only_wrong_words = λ wrong is. absurd (subst IsInputCause is kind);
        no_records = entries.untouched;
        files_decide = if_some before.store.files (λ known is.
            files_accepted before after (says known) found cause is
            (input_later cause kind)) accepted.gives;
        calls_made = if_some before.store.files (λ known.
            input_calls before.store.calls after.store.calls (read known).opened (writes_of output)
            cause kind) accepted.opens;
        no_files = λ none _. unread none;
        is_meant = if_some before.store.files (λ known is.
            if_some (input_for takes before.input.left) (λ bytes explained.
            ends_explained (answer_by takes says answered known bytes)
            (WritesAndSaves before after known) cause (unwritten_input cause kind)
            (input_explains takes says answered known bytes found cause is explained))
            entries.gives) accepted.gives;
        is_meant_alone = λ none known.
            if_some (input_for takes before.input.left) (λ bytes explained.
            ends_explained (answer_by takes says answered known bytes) (Writes before after) cause
            (unwritten_input cause kind)
            (input_explains takes says answered known bytes found cause (alone none known)
            explained)) entries.gives;
        others_stay = stay_same before.store.files after.store.files output accepted.same;
        same_files = λ _. same_known before.store.files after.store.files accepted.same;
        fault_line_written = λ _. line;
        all_read = λ written. absurd (unwritten_input cause kind written);
        read_failed = λ is. inr (record {
          rose = (subst (CauseCounts before.input.faults after.input.faults) is
              entries.counts).1;
          no_file_failed = accepted.counts;
          accepted = if_some before.store.files (λ known is. ap refusal_in is) accepted.gives;
        });
        write_failed = λ is. absurd (subst IsInputCause is kind);
        read_counts = omega (arith, accepted.counts);
        input_counts =
            counts_later before.input.faults after.input.faults cause entries.counts;
        write_counts = omega (arith, accepted.unwritten);
        no_read_failed = λ calm. (
          accepted.counts,
          counts_calm before.input.faults after.input.faults cause entries.counts calm,
        );
        no_write_failed = λ _. accepted.unwritten;
        sink_counts = line_later before.sink after.sink _ line;
        no_report_failed = λ reported. absurd (unwritten_input cause kind
            (reported_written cause reported));
      }

  line_for : (list : List NamedFile) (a b : Cause) → list ≡ reads → a ≡ b
      → WritesLine before.sink after.sink (fault_line list a) → Fault_line b
  line_for list a b own same line =
      subst Fault_line same (subst (λ (l : List NamedFile).
      WritesLine before.sink after.sink (fault_line l a)) own line)

  -- a refusal of a file, or want of memory in its place
  pub ended_by_file : (refusal cause : Cause) (list : List NamedFile)
      → (cause ≡ refusal) ⊎ (cause ≡ OutOfMemory) → list ≡ reads
      → FilesRead read before.store after.store (Err refusal)
      → (reads ≡ [] → after.store ≡ before.store)
      → (reads ≡ [] → (known : Files) → Explained (says known) refusal) → after.input ≡ before.input
      → WritesLine before.sink after.sink (fault_line list cause) → Ran cause
  ended_by_file refusal cause list (inl is) own ended unread alone still line =
      subst Ran (sym is)
      (refused_file refusal ended unread alone still (line_for list cause refusal own is line))
  ended_by_file refusal cause list (inr is) own ended unread alone still line =
      subst Ran (sym is) (gave_up _ _ _ _ _ _ _ _
      (all_some before.store.files (λ known. files_memory before after (says known) still))
      (if_some before.store.files (λ known.
      cause_up_to before.store.calls after.store.calls (read known).opened (writes_of output)
      refusal) ended.opens) (λ none _. unread none) (λ _. still)
      (stay_same before.store.files after.store.files output ended.same)
      (same_known before.store.files after.store.files ended.same)
      (line_for list cause OutOfMemory own is line)
      (counts_later _ _ refusal ended.counts) (omega (arith, taken still))
      ended.unwritten)

  -- a refusal of the input, or want of memory in its place
  pub ended_by_input : (refusal cause : Cause) (list : List NamedFile) (found : R)
      → (cause ≡ refusal) ⊎ (cause ≡ OutOfMemory) → list ≡ reads
      → FilesRead read before.store after.store (Ok found)
      → InputRead takes before.input after.input (Err refusal) → IsInputCause refusal
      → (reads ≡ [] → after.store ≡ before.store)
      → (reads ≡ [] → (known : Files) → says known ≡ Ok found)
      → WritesLine before.sink after.sink (fault_line list cause) → Ran cause
  ended_by_input refusal cause list found (inl is) own accepted entries kind unread alone line =
      subst Ran (sym is)
      (refused_input refusal found accepted entries kind unread alone
      (line_for list cause refusal own is line))
  ended_by_input refusal cause list found (inr is) own accepted entries kind unread alone line =
      subst Ran (sym is) (gave_up _ _ _ _ _ _ _ _
      (accepted_memory reads takes soft output read answered before after after.store found
      accepted)
      (if_some before.store.files (λ known.
      all_up_to before.store.calls after.store.calls (read known).opened (writes_of output))
      accepted.opens) (λ none _. unread none) entries.untouched
      (stay_same before.store.files after.store.files output accepted.same)
      (same_known before.store.files after.store.files accepted.same)
      (line_for list cause OutOfMemory own is line)
      (omega (arith, accepted.counts)) (counts_later _ _ refusal entries.counts)
      accepted.unwritten)
