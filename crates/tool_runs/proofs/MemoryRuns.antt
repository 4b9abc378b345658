-- A run that ends for want of memory.
use Rattle.std.proofs.Common.{◌≡◌, ap, sym, subst, ℕ, ◌+◌, ◌≤◌, arith, List, []}
use Rattle.std.specs.Prelude.{Bool, Option, Some, None, Result, Ok, IfSome}
use Rattle.input_output.specs.Store.{Files}
use Rattle.file_roles.specs.declared.list.NamedFile.{NamedFile}
use Rattle.find_records.specs.Record.{Record}
use Rattle.find_records.specs.declared.format.Format.{Format}
use Rattle.run_faults.specs.Faults.{fault_line}
use Rattle.run_faults.specs.declared.cause.Cause.{Cause}
use Rattle.run_faults.specs.declared.cause.Cause.TheVariants.{OutOfMemory}
use Rattle.run_input.specs.Files.{CallsUpTo, FilesSay}
use Rattle.run_input.specs.Records.{input_for}
use Rattle.run_input.proofs.ReadsLemmas.{all_some}
use Rattle.run_endings.specs.Endings.{writes_of}
use Rattle.run_endings.specs.declared.ending.Ending.{Ending}
use Rattle.tool_runs.specs.Outside.{InputSeen, Outside, StoreSeen, WritesLine}
use Rattle.tool_runs.specs.Plan.{plan_by, refusal_in}
use Rattle.tool_runs.specs.Run.{FilesDecide, OthersStay, Run}
use Rattle.tool_runs.proofs.PartLemmas.{FilesRead, files_accepted, files_memory, if_some}
use Rattle.tool_runs.proofs.PartLemmas.{line_later, same_known, stay_same, still_up_to}

module _ {S I R : Type 0} (reads : List NamedFile) (takes : Option Format) (soft : Bool)
    (output : Option (List ℕ))
    (read : Files → FilesSay R) (answered : R → List Record → Result Ending Cause)
    (before after : Outside S I) where
  abbrev Ran : Cause → Type 0
  Ran = Run (Ok (plan_by reads takes soft output read answered)) before after

  -- the files were accepted, and then memory was wanting
  pub accepted_memory : (mid : StoreSeen S) (found : R)
      → FilesRead read before.store mid (Ok found)
      → IfSome before.store.files (λ known.
      FilesDecide (refusal_in (read known).says) before after OutOfMemory)
  accepted_memory mid found accepted =
      if_some before.store.files (λ known is.
      files_accepted before after (read known).says found OutOfMemory is (λ _. tt))
      accepted.gives

  -- want of memory, before anything was written
  pub gave_up : IfSome before.store.files (λ known.
      FilesDecide (refusal_in (read known).says) before after OutOfMemory)
      → IfSome before.store.files (λ known. CallsUpTo before.store.calls after.store.calls
      ((read known).opened + writes_of output))
      → (reads ≡ [] → output ≡ None → after.store ≡ before.store)
      → (takes ≡ None → after.input ≡ before.input)
      → OthersStay before.store.files after.store.files output
      → IfSome before.store.files (λ known. after.store.files ≡ Some known)
      → WritesLine before.sink after.sink (fault_line reads OutOfMemory)
      → before.store.read_faults ≤ after.store.read_faults
      → before.input.faults ≤ after.input.faults
      → after.store.write_faults ≡ before.store.write_faults
      → Ran OutOfMemory
  gave_up decides made untouched unread others same line later input_later unwritten =
      record {
        wrong_words = tt;
        only_wrong_words = λ wrong is. absurd (cc);
        no_records = unread;
        files_decide = decides;
        calls_made = made;
        no_files = untouched;
        is_meant = all_some before.store.files (λ known.
            all_some (input_for takes before.input.left) (λ bytes. tt));
        is_meant_alone = λ none known. all_some (input_for takes before.input.left) (λ bytes. tt);
        others_stay = others;
        same_files = λ _. same;
        fault_line_written = λ _. line;
        all_read = λ written. absurd written;
        read_failed = λ is. absurd (cc);
        write_failed = λ is. absurd (cc);
        read_counts = later;
        input_counts = input_later;
        write_counts = omega (arith, unwritten);
        no_read_failed = λ calm. absurd (calm tt);
        no_write_failed = λ _. unwritten;
        sink_counts = line_later before.sink after.sink _ line;
        no_report_failed = λ reported. absurd reported;
      }

  -- no memory, before anything was read
  pub given_up_early : (cause : Cause) → cause ≡ OutOfMemory → after.store ≡ before.store
      → after.input ≡ before.input
      → WritesLine before.sink after.sink (fault_line reads OutOfMemory) → Ran cause
  given_up_early cause is still unread line =
      let same : after.store.files ≡ before.store.files = ap (λ (s : StoreSeen S). s.files) still in
      let counted : after.store.read_faults ≡ before.store.read_faults
      = ap (λ (s : StoreSeen S). s.read_faults) still in
      let taken : after.input.faults ≡ before.input.faults =
      ap (λ (i : InputSeen I). i.faults) unread in
      subst Ran (sym is) (gave_up
      (all_some before.store.files (λ known. files_memory before after (read known).says unread))
      (all_some before.store.files (λ known.
      still_up_to before.store after.store ((read known).opened + writes_of output) still))
      (λ _ _. still) (λ _. unread)
      (stay_same before.store.files after.store.files output same)
      (same_known before.store.files after.store.files same) line
      (omega (arith, counted)) (omega (arith, taken))
      (ap (λ (s : StoreSeen S). s.write_faults) still))
