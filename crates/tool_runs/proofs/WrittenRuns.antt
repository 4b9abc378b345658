-- A run that writes what its tool answers, or tries to.
use Rattle.std.proofs.Common.{◌≡◌, ◌∙◌, ap, sym, subst, refl, ℕ, ◌+◌, ◌≤◌, arith, ◌⊎◌, inl, inr}
use Rattle.std.proofs.Common.{List, []}
use Rattle.std.specs.Prelude.{Bool, true, Option, Some, None, Result, Ok, Err, is_ok, is_some}
use Rattle.std.specs.Prelude.{IfSome, IsSome, option_map}
use Rattle.input_output.specs.Source.{Rose}
use Rattle.input_output.specs.Store.{Calls, Files, SaveCounts}
use Rattle.input_output.specs.declared.store.SaveFault.{SaveFault}
use Rattle.input_output.specs.declared.store.SaveFault.TheVariants as save
use Rattle.file_roles.specs.declared.list.NamedFile.{NamedFile}
use Rattle.find_records.specs.Record.{Record}
use Rattle.find_records.specs.declared.format.Format.{Format}
use Rattle.run_faults.specs.Causes.{Explained, IsInputCause, IsReported, IsWritten}
use Rattle.run_faults.specs.Faults.{fault_line}
use Rattle.run_faults.specs.declared.cause.Cause.{Cause}
use Rattle.run_faults.specs.declared.cause.Cause.TheVariants.{ReadFault, WriteFault, OutOfMemory}
use Rattle.run_input.specs.Files.{CallsUpTo, FilesSay}
use Rattle.run_input.specs.Records.{entries_for, input_for}
use Rattle.run_input.proofs.ReadsLemmas.{calls_on}
use Rattle.run_endings.specs.Endings.{Saves, ending_cause, writes_of}
use Rattle.run_endings.specs.declared.ending.Ending.{Ending}
use Rattle.tool_runs.specs.Outside.{Outside, StoreSeen, WritesLine}
use Rattle.tool_runs.specs.Plan.{answer_by, plan_by}
use Rattle.tool_runs.specs.Run.{EndsAsMeant, LosesDump, LosesReport, OthersStay, Run, Writes}
use Rattle.tool_runs.specs.Run.{WritesAndSaves, WritesFrontAndSaves, files_with}
use Rattle.tool_runs.specs.Stages.{Ended, GivesUp, WritesBehind, saved_name}
use Rattle.tool_runs.proofs.InputStage.{InputRead}
use Rattle.tool_runs.proofs.PartLemmas.{FilesRead, all_saved, all_up_to, answer_is, end_kept}
use Rattle.tool_runs.proofs.PartLemmas.{end_written, ends_explained, ends_reported, exactly}
use Rattle.tool_runs.proofs.PartLemmas.{failing_named, files_accepted, if_both, if_some}
use Rattle.tool_runs.proofs.PartLemmas.{input_calls, input_later, line_later, none_named}
use Rattle.tool_runs.proofs.PartLemmas.{none_saved, ok_and, others_stay, reported_written}
use Rattle.tool_runs.proofs.PartLemmas.{same_known, stay_same, unwritten_input, writes_named}
use Rattle.tool_runs.proofs.PartLemmas.{written_calls, written_later}
use Rattle.tool_runs.proofs.MemoryRuns.{accepted_memory, gave_up}

module _ {S I R : Type 0} (reads : List NamedFile) (takes : Option Format) (soft : Bool)
    (output : Option (List ℕ))
    (read : Files → FilesSay R) (answered : R → List Record → Result Ending Cause)
    (before after : Outside S I) where
  abbrev Ran : Cause → Type 0
  Ran = Run (Ok (plan_by reads takes soft output read answered)) before after

  abbrev says : Files → Result R Cause
  says known = (read known).says

  abbrev Fault_line : Cause → Type 0
  Fault_line cause = WritesLine before.sink after.sink (fault_line reads cause)

  abbrev Meant : Cause → Type 0
  Meant cause = IfSome before.store.files (λ known.
      IfSome (input_for takes before.input.left) (λ bytes.
      EndsAsMeant (answer_by takes says answered known bytes) (WritesAndSaves before after known)
      cause))

  abbrev Solo : Cause → Type 0
  Solo cause = reads ≡ [] → (known : Files)
      → IfSome (input_for takes before.input.left) (λ bytes.
      EndsAsMeant (answer_by takes says answered known bytes) (Writes before after) cause)

  abbrev WriteFailed : Type 0
  WriteFailed = LosesDump (Ok (plan_by reads takes soft output read answered)) before after
      ⊎ LosesReport (Ok (plan_by reads takes soft output read answered)) before after

  -- files and input were accepted
  module _ (mid : StoreSeen S) (found : R) (entries : List Record)
      (accepted : FilesRead read before.store mid (Ok found))
      (given : InputRead takes before.input after.input (Ok entries))
      (ended : IsSome takes → IfSome before.input.left (λ bytes. after.input.left ≡ Some []))
      (unread : reads ≡ [] → mid ≡ before.store)
      (alone : reads ≡ [] → (known : Files) → says known ≡ Ok found) where
    -- the files were opened, and then so many writes were tried
    calls_behind : (more : ℕ) → Calls mid.calls after.store.calls more
        → IfSome before.store.files (λ known.
        Calls before.store.calls after.store.calls ((read known).opened + more))
    calls_behind more made =
        if_some before.store.files (λ known opened.
        calls_on before.store.calls mid.calls after.store.calls (read known).opened more opened
        made) accepted.opens

    calls_still : after.store ≡ mid → IfSome before.store.files (λ known.
        Calls before.store.calls after.store.calls (read known).opened)
    calls_still still =
        if_some before.store.files (λ known opened.
        subst (λ (now : StoreSeen S). Calls before.store.calls now.calls (read known).opened)
        (sym still) opened) accepted.opens

    -- memory was wanting
    memory : OthersStay before.store.files after.store.files output
        → IfSome before.store.files (λ known. after.store.files ≡ Some known)
        → IfSome before.store.files (λ known. CallsUpTo before.store.calls after.store.calls
        ((read known).opened + writes_of output))
        → (reads ≡ [] → output ≡ None → after.store ≡ before.store)
        → after.store.read_faults ≡ mid.read_faults → after.store.write_faults ≡ mid.write_faults
        → Fault_line OutOfMemory → Ran OutOfMemory
    memory others same made untouched uncounted unwritten line =
        gave_up reads takes soft output read answered before after
        (accepted_memory reads takes soft output read answered before after mid found accepted) made
        untouched given.untouched others same line
        (omega (arith, uncounted, accepted.counts)) (omega (arith, given.counts))
        (unwritten ∙ accepted.unwritten)

    -- the store is as the files left it
    module _ (still : after.store ≡ mid) where
      same : after.store.files ≡ before.store.files
      same = ap (λ (s : StoreSeen S). s.files) still ∙ accepted.same

      reads_stay : after.store.read_faults ≡ mid.read_faults
      reads_stay = ap (λ (s : StoreSeen S). s.read_faults) still

      writes_stay : after.store.write_faults ≡ mid.write_faults
      writes_stay = ap (λ (s : StoreSeen S). s.write_faults) still

    -- the tool refused
    refused : (cause : Cause) → Explained (answered found entries) cause → IsInputCause cause
        → (cause ≡ ReadFault → ⊥) → after.store ≡ mid → Fault_line cause → Ran cause
    refused cause explained kind never still line =
        record {
          wrong_words = tt;
          only_wrong_words = λ wrong is. absurd (subst IsInputCause is kind);
          no_records = given.untouched;
          files_decide = if_some before.store.files (λ known is.
              files_accepted before after (says known) found cause is
              (input_later cause kind)) accepted.gives;
          calls_made = if_some before.store.files (λ known.
              input_calls before.store.calls after.store.calls (read known).opened
              (writes_of output) cause kind) (calls_still still);
          no_files = λ none _. still ∙ unread none;
          is_meant = if_some before.store.files (λ known is.
              if_some (input_for takes before.input.left) (λ bytes entered.
              ends_explained (answer_by takes says answered known bytes)
              (WritesAndSaves before after known) cause (unwritten_input cause kind)
              (explains known bytes is entered)) given.gives) accepted.gives;
          is_meant_alone = λ none known.
              if_some (input_for takes before.input.left) (λ bytes entered.
              ends_explained (answer_by takes says answered known bytes) (Writes before after) cause
              (unwritten_input cause kind) (explains known bytes (alone none known) entered))
              given.gives;
          others_stay = stay_same before.store.files after.store.files output (same still);
          same_files = λ _. same_known before.store.files after.store.files (same still);
          fault_line_written = λ _. line;
          all_read = λ written. absurd (unwritten_input cause kind written);
          read_failed = λ is. absurd (never is);
          write_failed = λ is. absurd (subst IsInputCause is kind);
          read_counts = omega (arith, reads_stay still, accepted.counts);
          input_counts = omega (arith, given.counts);
          write_counts = omega (arith, writes_stay still, accepted.unwritten);
          no_read_failed = λ _. (reads_stay still ∙ accepted.counts, given.counts);
          no_write_failed = λ _. writes_stay still ∙ accepted.unwritten;
          sink_counts = line_later before.sink after.sink _ line;
          no_report_failed = λ reported. absurd (unwritten_input cause kind
              (reported_written cause reported));
        }
      where
        explains : (known : Files) (bytes : List ℕ) → says known ≡ Ok found
            → entries_for takes bytes ≡ Ok entries
            → Explained (answer_by takes says answered known bytes) cause
        explains known bytes is entered =
            subst (λ (meant : Result Ending Cause). Explained meant cause)
            (sym (answer_is takes says answered known bytes found entries
            (answered found entries) is entered refl)) explained

    -- a refusal of the tool, or want of memory in its place
    ended_by_tool : (cause refusal : Cause) → Explained (answered found entries) refusal
        → IsInputCause refusal → (refusal ≡ ReadFault → ⊥)
        → (cause ≡ refusal) ⊎ (cause ≡ OutOfMemory) → after.store ≡ mid → Fault_line cause
        → Ran cause
    ended_by_tool cause refusal explained kind never (inl is) still line =
        subst Ran (sym is)
        (refused refusal explained kind never still (subst Fault_line is line))
    ended_by_tool cause refusal explained kind never (inr is) still line =
        subst Ran (sym is) (memory
        (stay_same before.store.files after.store.files output (same still))
        (same_known before.store.files after.store.files (same still))
        (if_some before.store.files (λ known.
        all_up_to before.store.calls after.store.calls (read known).opened (writes_of output))
        (calls_still still)) (λ none _. still ∙ unread none)
        (reads_stay still) (writes_stay still) (subst Fault_line is line))

    -- these are the texts
    module _ (made : Ending) (is : answered found entries ≡ Ok made)
        (named : option_map saved_name made.saved ≡ output)
        (made_calls : Calls mid.calls after.store.calls (writes_of made.saved))
        (unasked : made.saved ≡ None → after.store ≡ mid)
        (uncounted : after.store.read_faults ≡ mid.read_faults) where
      answer_made : (known : Files) (bytes : List ℕ) → says known ≡ Ok found
          → entries_for takes bytes ≡ Ok entries
          → answer_by takes says answered known bytes ≡ Ok made
      answer_made known bytes accepts entered =
          answer_is takes says answered known bytes found entries (Ok made) accepts entered is

      saves_here : (result : Result (Unit {0}) SaveFault)
          → Saves mid.files after.store.files made.saved result
          → Saves before.store.files after.store.files made.saved result
      saves_here result saves =
          subst (λ (old : Option Files). Saves old after.store.files made.saved result)
          accepted.same saves

      saved_now : Saves mid.files after.store.files made.saved (Ok tt)
          → IfSome before.store.files (λ known.
          after.store.files ≡ Some (files_with known made.saved))
      saved_now saves =
          all_saved before.store.files after.store.files made.saved (saves_here (Ok tt) saves)

      -- so many calls write
      writes : IfSome before.store.files (λ known.
          Calls before.store.calls after.store.calls ((read known).opened + writes_of output))
      writes = calls_behind (writes_of output)
          (subst (λ (n : ℕ). Calls mid.calls after.store.calls n)
          (writes_named made.saved ∙ ap writes_of named) made_calls)

      untouched : reads ≡ [] → output ≡ None → after.store ≡ before.store
      untouched none unsaved = unasked (none_named made.saved (named ∙ unsaved)) ∙ unread none

      stays : (result : Result (Unit {0}) SaveFault)
          → Saves mid.files after.store.files made.saved result
          → OthersStay before.store.files after.store.files output
      stays result saves =
          subst (λ (name : Option (List ℕ)). OthersStay before.store.files after.store.files name)
          named (others_stay before.store.files after.store.files made.saved result
          (saves_here result saves))

      -- a write was tried
      tried : (cause : Cause) (result : Result (Unit {0}) SaveFault) → IsWritten cause
          → Saves mid.files after.store.files made.saved result
          → before.sink.faults ≤ after.sink.faults
          → (IsReported cause → after.sink.faults ≡ before.sink.faults)
          → before.store.write_faults ≤ after.store.write_faults
          → ((cause ≡ WriteFault → ⊥)
          → after.store.write_faults ≡ before.store.write_faults)
          → Meant cause → Solo cause → (cause ≡ WriteFault → WriteFailed) → Ran cause
      tried cause result kind saves sinks sunk later calm meant solo failed =
          record {
            wrong_words = tt;
            only_wrong_words = λ wrong is. absurd (subst IsWritten is kind);
            no_records = given.untouched;
            files_decide = if_some before.store.files (λ known is.
                files_accepted before after (says known) found cause is
                (written_later cause kind)) accepted.gives;
            calls_made = if_some before.store.files (λ known.
                written_calls before.store.calls after.store.calls (read known).opened
                (writes_of output) cause kind) writes;
            no_files = untouched;
            is_meant = meant;
            is_meant_alone = solo;
            others_stay = stays result saves;
            same_files = λ unwritten. absurd (unwritten kind);
            fault_line_written = λ unwritten. absurd (unwritten kind);
            all_read = λ _. ended;
            read_failed = λ is. absurd (subst IsWritten is kind);
            write_failed = failed;
            read_counts = omega (arith, uncounted, accepted.counts);
            input_counts = omega (arith, given.counts);
            write_counts = later;
            no_read_failed = λ _. (uncounted ∙ accepted.counts, given.counts);
            no_write_failed = calm;
            sink_counts = sinks;
            no_report_failed = sunk;
          }

      -- a write failed, and a report was meant
      failed_to_write : (cause : Cause) (result : Result (Unit {0}) SaveFault)
          → cause ≡ WriteFault → Saves mid.files after.store.files made.saved result
          → before.sink.faults ≤ after.sink.faults
          → before.store.write_faults ≤ after.store.write_faults → WriteFailed → Ran cause
      failed_to_write cause result cause_is saves sinks later failed =
          subst Ran (sym cause_is) (tried WriteFault result tt saves sinks
          (λ reported. absurd reported) later (λ kept. absurd (kept refl))
          (if_some before.store.files (λ known accepts.
          if_some (input_for takes before.input.left) (λ bytes entered.
          ap is_ok (answer_made known bytes accepts entered)) given.gives) accepted.gives)
          (λ none known. if_some (input_for takes before.input.left) (λ bytes entered.
          ap is_ok (answer_made known bytes (alone none known) entered)) given.gives)
          (λ _. failed))

      -- the file was saved, and the report written whole or not
      finished : (cause : Cause) → Saves mid.files after.store.files made.saved (Ok tt)
          → after.store.write_faults ≡ mid.write_faults
          → WritesBehind reads made (Ok tt) before.sink after.sink cause → Ran cause
      finished cause saves unwritten (inl done) =
          subst Ran (sym done.0) (tried (ending_cause made.end) (Ok tt) (end_written made.end) saves
          (omega (arith, done.1.1)) (λ _. done.1.1)
          (omega (arith, unwritten, accepted.unwritten)) (λ _. unwritten ∙ accepted.unwritten)
          (if_both before.store.files (λ known accepts saved.
          if_some (input_for takes before.input.left) (λ bytes entered.
          ends_reported (answer_by takes says answered known bytes)
          (WritesAndSaves before after known) made.end (record {
            reported = made;
            is_meant = answer_made known bytes accepts entered;
            done = record { whole = done.1.0; saved = saved };
            cause_is = refl;
          })) given.gives) accepted.gives (saved_now saves))
          (λ none known. if_some (input_for takes before.input.left) (λ bytes entered.
          ends_reported (answer_by takes says answered known bytes) (Writes before after) made.end
          (record {
            reported = made;
            is_meant = answer_made known bytes (alone none known) entered;
            done = done.1.0;
            cause_is = refl;
          })) given.gives)
          (λ cause_is. absurd (end_kept made.end cause_is)))
      finished cause saves unwritten (inr failed) =
          failed_to_write cause (Ok tt) failed.0 saves failed.1.1
          (omega (arith, unwritten, accepted.unwritten)) (inr (record {
            rose = failed.1.2;
            no_file_failed = unwritten ∙ accepted.unwritten;
            front = if_both before.store.files (λ known accepts saved.
                if_some (input_for takes before.input.left) (λ bytes entered.
                ok_and (WritesFrontAndSaves before after known)
                (answer_by takes says answered known bytes) made
                (answer_made known bytes accepts entered)
                (record { front = failed.1.0; saved = saved })) given.gives) accepted.gives
                (saved_now saves);
          }))

      -- the file could not be written
      lost_file : (cause : Cause) → Saves mid.files after.store.files made.saved (Err save.Failed)
          → SaveCounts mid.write_faults after.store.write_faults (Err save.Failed)
          → GivesUp reads WriteFault before.sink after.sink cause → Ran cause
      lost_file cause saves counts lost =
          failed_to_write cause (Err save.Failed) lost.cause_is saves
          (line_later before.sink after.sink _ lost.line)
          (omega (arith, counts.0, accepted.unwritten)) (inl (record {
            to_file = subst (λ (name : Option (List ℕ)). is_some name ≡ true) named
                (failing_named mid.files after.store.files made.saved saves);
            rose = subst (λ (n : ℕ). Rose n after.store.write_faults) accepted.unwritten counts.1;
            line = lost.line;
          }))

      -- no memory to write the file
      unsaved : (cause : Cause)
          → Saves mid.files after.store.files made.saved (Err save.OutOfMemory)
          → after.store.write_faults ≡ mid.write_faults
          → GivesUp reads OutOfMemory before.sink after.sink cause → Ran cause
      unsaved cause saves unwritten ended_by =
          subst Ran (sym ended_by.cause_is) (memory (stays (Err save.OutOfMemory) saves)
          (none_saved before.store.files after.store.files made.saved
          (saves_here (Err save.OutOfMemory) saves))
          (if_some before.store.files (λ known.
          exactly before.store.calls after.store.calls ((read known).opened + writes_of output))
          writes) untouched uncounted unwritten ended_by.line)

      -- by what the write of the file answered
      by_saving : (cause : Cause) (saving : Result (Unit {0}) SaveFault)
          → Saves mid.files after.store.files made.saved saving
          → SaveCounts mid.write_faults after.store.write_faults saving
          → WritesBehind reads made saving before.sink after.sink cause → Ran cause
      by_saving cause (Ok done) saves counts behind = finished cause saves counts behind
      by_saving cause (Err save.Failed) saves counts behind = lost_file cause saves counts behind
      by_saving cause (Err save.OutOfMemory) saves counts behind =
          unsaved cause saves counts behind

    -- the tool was asked, and its answer written
    pub ended_run : (cause : Cause)
        → Ended reads output (answered found entries) mid after.store before.sink after.sink cause
        → Ran cause
    ended_run cause (inl refusal) =
        ended_by_tool cause refusal.refusal refusal.given refusal.of_input
        refusal.no_read_failed refusal.cause_is refusal.untouched refusal.line
    ended_run cause (inr answer) =
        by_saving answer.made answer.is_meant answer.named answer.calls_made answer.unasked
        answer.read_counts cause answer.saving answer.file_saved answer.write_counts answer.behind
