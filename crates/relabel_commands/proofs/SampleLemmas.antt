-- A run of a sample is never refused.
use Rattle.std.proofs.Common.{◌≡◌, ◌∙◌, ap, refl, sym, subst, ℕ, List, [], ◌∷◌, ◌⊎◌, inl, inr, ◌≤◌}
use Rattle.std.specs.Prelude.{Option, Result, Ok, Err, IfOk, IsOk}
use Rattle.std.specs.FinMap as map
use Rattle.input_output.specs.Source.{Rose}
use Rattle.tool_words.specs.declared.usage.Usage.{Usage}
use Rattle.run_faults.specs.declared.cause.Cause.{Cause}
use Rattle.run_faults.specs.declared.cause.Cause.TheVariants.{Done, OutOfMemory, ReadFault}
use Rattle.run_faults.specs.declared.cause.Cause.TheVariants.{WriteFault, WalkErrors, Differs}
use Rattle.run_faults.specs.declared.cause.Cause.TheVariants.{Denied}
use Rattle.run_endings.specs.Endings.{ending_cause}
use Rattle.run_endings.specs.declared.ending.End.TheVariants as ends
use Rattle.run_endings.specs.declared.ending.Ending.{Ending}
use Rattle.tool_runs.specs.Outside.{InputSeen, Outside, StoreSeen}
use Rattle.tool_runs.specs.Plan.{Plan, planned}
use Rattle.tool_runs.specs.Run.{EndsAsMeant, Reports, Run, Writes}
use Rattle.sample_tree.specs.Accepted.{IsAlwaysDone}
use Rattle.sample_tree.specs.Plan.{sample_plan}
use Rattle.sample_tree.specs.Words.{sample_words}
use Rattle.sample_tree.specs.declared.words.SampleWords.{SampleWords}
use Rattle.sample_tree.specs.declared.words.TheConstants.{MOST_FILES}
use Rattle.sample_tree.proofs.AcceptedLemmas.{always_done, few_in_words}
use Rattle.relabel_commands.specs.Samples.{AskForSample, EndsSample, RunsSample}
use Rattle.relabel_commands.specs.Tools.{asked_for, plan_of}
use Rattle.relabel_commands.specs.declared.runs.TheConstants.{FIRST}
use Rattle.relabel_commands.specs.declared.runs.ToolName.{ToolName}

-- ---- what the words ask for

-- the plan is that of a sample that the words admit
record AsksSample (words : List (List ℕ)) : Type 0 where
  asked : SampleWords
  plan : plan_of words ≡ Ok (sample_plan asked)
  few : asked.count ≤ MOST_FILES

by_words : (tool : List ℕ) (words : List (List ℕ)) (read : Result SampleWords Usage)
    → sample_words FIRST words ≡ read → plan_of (tool ∷ words) ≡ planned sample_plan
    (sample_words FIRST words) → IsOk read → AsksSample (tool ∷ words)
by_words tool words (Ok asked) is plan good = record {
  asked = asked;
  plan = plan ∙ ap (planned sample_plan) is;
  few = few_in_words FIRST words asked is;
}
by_words tool words (Err wrong) is plan good = cc

asks : (words : List (List ℕ)) → AskForSample words → AsksSample words
asks [] h = absurd h
asks (tool ∷ words) h =
    by_words tool words (sample_words FIRST words) refl
    (ap (λ (named : Option ToolName). asked_for named words) h.0) h.1

-- ---- how a run of it ends

not_refused : (meant : Result Ending Cause) (ending : Ending) (cause : Cause) → meant ≡ Ok ending
    → meant ≡ Err cause → ⊥
not_refused meant ending cause is refused = cc

module _ (meant : Result Ending Cause) (IsDone : Ending → Type 0) (ending : Ending)
    (is : meant ≡ Ok ending) (done : ending.end ≡ ends.Done) where
  -- the end of a walk without errors is no other
  other_end : (cause : Cause) → Reports meant IsDone cause → cause ≡ Done
  other_end cause reports =
      let same : reports.reported ≡ ending = same_ending reports.reported reports.is_meant in
      reports.cause_is ∙ ap (λ (e : Ending). ending_cause e.end) same ∙ ap ending_cause done
    where
      same_ending : (reported : Ending) → meant ≡ Ok reported → reported ≡ ending
      same_ending reported so = cc

  module _ (read_faults input_faults : ℕ) where
    ends_so : (cause : Cause) → EndsAsMeant meant IsDone cause
        → (cause ≡ ReadFault → Rose read_faults read_faults ⊎ Rose input_faults input_faults)
        → EndsSample read_faults input_faults cause
    ends_so Done so read = tt
    ends_so WriteFault so read = tt
    ends_so OutOfMemory so read = tt
    ends_so ReadFault so read = read refl
    ends_so (WalkErrors count) so read =
        let same : WalkErrors count ≡ Done = other_end (WalkErrors count) so in cc
    ends_so (Differs count) so read =
        let same : Differs count ≡ Done = other_end (Differs count) so in cc
    ends_so (Denied finding) so read =
        let same : Denied finding ≡ Done = other_end (Denied finding) so in cc
    ends_so cause so read = absurd (not_refused meant ending cause is so)

module _ {S I : Type 0} (before after : Outside S I) (cause : Cause) where
  -- a failed read raised a count of an object that is as it was
  read_so : (words : SampleWords) → Run (Ok (sample_plan words)) before after cause
      → cause ≡ ReadFault
      → Rose before.store.read_faults before.store.read_faults ⊎ Rose before.input.faults
      before.input.faults
  read_so words run is = elim (run.read_failed is) [
    | inl failed ↦ inl (subst (λ (s : StoreSeen S). Rose before.store.read_faults s.read_faults)
        (run.no_files refl refl) failed.rose)
    | inr failed ↦ inr (subst (λ (i : InputSeen I). Rose before.input.faults i.faults)
        (run.no_records refl) failed.rose)
  ]

  ends_of : (words : SampleWords) → IsAlwaysDone (sample_plan words)
      → Run (Ok (sample_plan words)) before after cause
      → EndsSample before.store.read_faults before.input.faults cause
  ends_of words always run =
      let answer = always.answers map.empty [] in
      ends_so ((sample_plan words).answer map.empty []) (Writes before after) answer.0 answer.1
      answer.2 before.store.read_faults before.input.faults cause
      (run.is_meant_alone refl map.empty) (read_so words run)

  pub runs_sample : (words : List (List ℕ)) → Run (plan_of words) before after cause
      → RunsSample words before.store.read_faults before.input.faults cause
  runs_sample words run = λ ask.
      let sample = asks words ask in
      let always = always_done sample.asked sample.few in
      let moved = subst (λ (asked : Result Plan Usage). Run asked before after cause) sample.plan
      run in (
        subst (λ (asked : Result Plan Usage). IfOk asked IsAlwaysDone) (sym sample.plan) always,
        ends_of sample.asked always moved,
      )
