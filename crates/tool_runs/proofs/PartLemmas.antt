-- What the parts of a run say, as far as its end follows from that.
use Rattle.std.proofs.Common.{◌≡◌, ◌∙◌, ap, sym, subst, refl, cond, ℕ, ◌+◌, ◌≤◌, arith, inl, inr}
use Rattle.std.proofs.Common.{List}
use Rattle.std.specs.Prelude.{Bool, true, false, Option, Some, None, Result, Ok, Err, is_some}
use Rattle.std.specs.Prelude.{IfSome, IsOkAnd, option_map}
use Rattle.std.specs.FinMap as map
use Rattle.std.specs.FinMap.{get-insert, get-remove, same_map, nat_cmp-IsAntisymmetric}
use Rattle.std.specs.FinMap.{slice_cmp-IsAntisymmetric}
use Rattle.std.specs.Ordering.{eq_by_cmp, nat_cmp}
use Rattle.std.specs.Cmp.Lexicographic.{slice_cmp, nat_list_cmp_total}
use Rattle.input_output.specs.Store.{Calls, Files}
use Rattle.input_output.specs.declared.store.SaveFault.{SaveFault}
use Rattle.input_output.specs.declared.store.SaveFault.TheVariants as save
use Rattle.input_output.specs.declared.store.Store as stores
use Rattle.find_records.specs.Record.{Record}
use Rattle.find_records.specs.declared.format.Format.{Format}
use Rattle.run_faults.specs.Causes.{and_then, CauseCounts, Explained, IsFileCause, IsInputCause}
use Rattle.run_faults.specs.Causes.{IsReadingCause, IsReported, IsWritten}
use Rattle.run_faults.specs.declared.cause.Cause.{Cause}
use Rattle.run_faults.specs.declared.cause.Cause.TheVariants.{Done, RecordRefused, Unended, Doubled}
use Rattle.run_faults.specs.declared.cause.Cause.TheVariants.{Limit, WalkErrors, Differs, Denied}
use Rattle.run_faults.specs.declared.cause.Cause.TheVariants.{ReadFault, WriteFault, OutOfMemory}
use Rattle.run_faults.specs.declared.cause.LimitKind.TheVariants.{File, Specs, Records, RecordBytes}
use Rattle.run_input.specs.Files.{CallsUpTo, CauseOpens, FilesSay, Reads}
use Rattle.run_input.specs.Records.{entries_for}
use Rattle.run_input.proofs.ReadsLemmas.{explained_next, no_calls, up_to_more}
use Rattle.run_endings.specs.Endings.{Saves, ending_cause, writes_of}
use Rattle.run_endings.specs.declared.ending.End.{End}
use Rattle.run_endings.specs.declared.ending.End.TheVariants as ends
use Rattle.run_endings.specs.declared.ending.Ending.{Ending}
use Rattle.run_endings.specs.declared.ending.Saved.{Saved}
use Rattle.tool_runs.specs.Outside.{Outside, SinkSeen, StoreSeen, WritesLine, store_seen}
use Rattle.tool_runs.specs.Plan.{answer_by, refusal_in}
use Rattle.tool_runs.specs.Run.{CallsMade, EndsAsMeant, FilesDecide, OthersStay, Reports}
use Rattle.tool_runs.specs.Run.{files_with}
use Rattle.tool_runs.specs.Stages.{saved_name}

-- ---- what is seen

-- files were read, as a store is seen
abbrev pub FilesRead : {S V : Type 0} → (Files → FilesSay V) → (store store_now : StoreSeen S)
    → Result V Cause → Type 0
FilesRead {S} read store store_now result =
    Reads (λ (s : StoreSeen S). s.files) (λ (s : StoreSeen S). s.calls)
    (λ (s : StoreSeen S). s.read_faults) (λ (s : StoreSeen S). s.write_faults) read store store_now
    result

pub reads_seen : {S V : Type 0} (shows : stores.Ghosts S) (read : Files → FilesSay V)
    (store store_now : S)
    (result : Result V Cause)
    → Reads shows.files shows.calls shows.read_faults shows.write_faults read store store_now result
    → FilesRead read (store_seen shows store) (store_seen shows store_now) result
reads_seen shows read store store_now result ran = record {
  same = ran.same;
  unwritten = ran.unwritten;
  gives = ran.gives;
  opens = ran.opens;
  counts = ran.counts;
  kinds = ran.kinds;
}

pub ok_and : (P : Ending → Type 0) (meant : Result Ending Cause) (made : Ending) → meant ≡ Ok made
    → P made → IsOkAnd meant P
ok_and P meant made is held = subst (λ (m : Result Ending Cause). IsOkAnd m P) (sym is) held

-- ---- options

pub if_some : {A : Type 0} {P Q : A → Type 0} (found : Option A) → ((x : A) → P x → Q x)
    → IfSome found P → IfSome found Q
if_some None next held = held
if_some (Some x) next held = next x held

pub if_both : {A : Type 0} {P Q R : A → Type 0} (found : Option A)
    → ((x : A) → P x → Q x → R x) → IfSome found P → IfSome found Q → IfSome found R
if_both None next first second = first
if_both (Some x) next first second = next x first second

-- ---- what the files decide

module _ {S I R : Type 0} (before after : Outside S I) where
  pub files_refused : (meant : Result R Cause) (cause : Cause) → Explained meant cause
      → IsFileCause cause → after.input ≡ before.input
      → FilesDecide (refusal_in meant) before after cause
  files_refused (Err refusal) ReadFault is kind still =
      record { cause_is = inr tt; of_files = tt; no_input_read = still }
  files_refused (Err refusal) OutOfMemory is kind still =
      record { cause_is = inr tt; of_files = tt; no_input_read = still }
  files_refused (Err refusal) cause is kind still =
      record { cause_is = inl (cc); of_files = kind; no_input_read = still }
  files_refused (Ok value) ReadFault is kind still = λ _. tt
  files_refused (Ok value) OutOfMemory is kind still = λ _. tt
  files_refused (Ok value) cause is kind still = absurd (cc)

  pub files_memory : (meant : Result R Cause) → after.input ≡ before.input
      → FilesDecide (refusal_in meant) before after OutOfMemory
  files_memory (Err refusal) still =
      record { cause_is = inr tt; of_files = tt; no_input_read = still }
  files_memory (Ok value) still = λ _. tt

  pub files_accepted : (meant : Result R Cause) (found : R) (cause : Cause) → meant ≡ Ok found
      → (IsFileCause cause → IsReadingCause cause)
      → FilesDecide (refusal_in meant) before after cause
  files_accepted (Err refusal) found cause accepted later = absurd (cc)
  files_accepted (Ok value) found cause accepted later = later

pub input_later : (cause : Cause) → IsInputCause cause → IsFileCause cause → IsReadingCause cause
input_later (RecordRefused number why) kind file = file
input_later (Unended number) kind file = file
input_later (Doubled first second) kind file = file
input_later (Limit (File role)) kind file = absurd kind
input_later (Limit Specs) kind file = absurd kind
input_later (Limit Records) kind file = file
input_later (Limit RecordBytes) kind file = file
input_later cause kind file = kind

pub written_later : (cause : Cause) → IsWritten cause → IsFileCause cause → IsReadingCause cause
written_later Done kind file = file
written_later (WalkErrors count) kind file = file
written_later (Differs count) kind file = file
written_later (Denied finding) kind file = file
written_later WriteFault kind file = file
written_later cause kind file = absurd kind

pub unwritten_file : (cause : Cause) → IsFileCause cause → IsWritten cause → ⊥
unwritten_file Done kind written = kind
unwritten_file (WalkErrors count) kind written = kind
unwritten_file (Differs count) kind written = kind
unwritten_file (Denied finding) kind written = kind
unwritten_file WriteFault kind written = kind
unwritten_file cause kind written = written

pub unwritten_input : (cause : Cause) → IsInputCause cause → IsWritten cause → ⊥
unwritten_input Done kind written = kind
unwritten_input (WalkErrors count) kind written = kind
unwritten_input (Differs count) kind written = kind
unwritten_input (Denied finding) kind written = kind
unwritten_input WriteFault kind written = kind
unwritten_input cause kind written = written

-- ---- what is meant

pub ends_explained : (meant : Result Ending Cause) (IsDone : Ending → Type 0) (cause : Cause)
    → (IsWritten cause → ⊥) → Explained meant cause → EndsAsMeant meant IsDone cause
ends_explained meant IsDone Done unwritten is = absurd (unwritten tt)
ends_explained meant IsDone (WalkErrors count) unwritten is = absurd (unwritten tt)
ends_explained meant IsDone (Differs count) unwritten is = absurd (unwritten tt)
ends_explained meant IsDone (Denied finding) unwritten is = absurd (unwritten tt)
ends_explained meant IsDone WriteFault unwritten is = absurd (unwritten tt)
ends_explained meant IsDone cause unwritten is = is

module _ {R : Type 0} (takes : Option Format) (read : Files → Result R Cause)
    (answered : R → List Record → Result Ending Cause) (known : Files) (bytes : List ℕ) where
  pub file_explains : (cause : Cause) → Explained (read known) cause
      → Explained (answer_by takes read answered known bytes) cause
  unfolding answer_by
  file_explains cause is =
      explained_next (read known)
      (λ found. and_then (entries_for takes bytes) (answered found)) cause is

  answer_next : (found : R) → read known ≡ Ok found
      → answer_by takes read answered known bytes
      ≡ and_then (entries_for takes bytes) (answered found)
  unfolding answer_by
  answer_next found is =
      ap (λ r. and_then r (λ found. and_then (entries_for takes bytes) (answered found))) is

  pub input_explains : (found : R) (cause : Cause) → read known ≡ Ok found
      → Explained (entries_for takes bytes) cause
      → Explained (answer_by takes read answered known bytes) cause
  input_explains found cause is explained =
      subst (λ meant. Explained meant cause) (sym (answer_next found is))
      (explained_next (entries_for takes bytes) (answered found) cause explained)

  -- the answer is the tool's, where files and input are accepted
  pub answer_is : (found : R) (entries : List Record) (meant : Result Ending Cause)
      → read known ≡ Ok found → entries_for takes bytes ≡ Ok entries
      → answered found entries ≡ meant
      → answer_by takes read answered known bytes ≡ meant
  answer_is found entries meant is entered so =
      answer_next found is ∙ ap (λ r. and_then r (answered found)) entered ∙ so

-- ---- counts

pub counts_calm : (before now : ℕ) (cause : Cause) → CauseCounts before now cause
    → (IsReadingCause cause → ⊥) → now ≡ before
counts_calm before now ReadFault counts calm = absurd (calm tt)
counts_calm before now cause counts calm = counts

pub counts_later : (before now : ℕ) (cause : Cause) → CauseCounts before now cause → before ≤ now
counts_later before now ReadFault counts = counts.0
counts_later before now cause counts = omega (arith, counts)

-- a call that raises no count had no failed read
pub never_read : (cause : Cause) → CauseCounts 0 0 cause → cause ≡ ReadFault → ⊥
never_read ReadFault counts is = absurd (omega (arith, counts.1))
never_read cause counts is = absurd (cc)

-- ---- calls of the store

pub still_up_to : {S : Type 0} (store store_now : StoreSeen S) (most : ℕ) → store_now ≡ store
    → CallsUpTo store.calls store_now.calls most
still_up_to {S} store store_now most still =
    subst (λ (now : StoreSeen S). CallsUpTo store.calls now.calls most) (sym still)
    (0, omega arith, no_calls store.calls)

pub all_up_to : (old now : Option ℕ) (opened writes : ℕ) → Calls old now opened
    → CallsUpTo old now (opened + writes)
all_up_to old now opened writes made = (opened, omega arith, made)

pub exactly : (old now : Option ℕ) (made : ℕ) → Calls old now made → CallsUpTo old now made
exactly old now made calls = (made, omega arith, calls)

-- what reading files leaves, whatever comes of it
pub cause_up_to : (old now : Option ℕ) (opened writes : ℕ) (cause : Cause)
    → CauseOpens old now opened cause → CallsUpTo old now (opened + writes)
cause_up_to old now opened writes ReadFault opens =
    up_to_more old now opened (opened + writes) (omega arith) opens
cause_up_to old now opened writes OutOfMemory opens =
    up_to_more old now opened (opened + writes) (omega arith) opens
cause_up_to old now opened writes cause opens = all_up_to old now opened writes opens

pub file_calls : (old now : Option ℕ) (opened writes : ℕ) (cause : Cause) → IsFileCause cause
    → CauseOpens old now opened cause → CallsMade old now opened writes cause
file_calls old now opened writes Done kind opens = absurd kind
file_calls old now opened writes (WalkErrors count) kind opens = absurd kind
file_calls old now opened writes (Differs count) kind opens = absurd kind
file_calls old now opened writes (Denied finding) kind opens = absurd kind
file_calls old now opened writes WriteFault kind opens = absurd kind
file_calls old now opened writes ReadFault kind opens = opens
file_calls old now opened writes OutOfMemory kind opens =
    cause_up_to old now opened writes OutOfMemory opens
file_calls old now opened writes cause kind opens = opens

pub input_calls : (old now : Option ℕ) (opened writes : ℕ) (cause : Cause) → IsInputCause cause
    → Calls old now opened → CallsMade old now opened writes cause
input_calls old now opened writes Done kind made = absurd kind
input_calls old now opened writes (WalkErrors count) kind made = absurd kind
input_calls old now opened writes (Differs count) kind made = absurd kind
input_calls old now opened writes (Denied finding) kind made = absurd kind
input_calls old now opened writes WriteFault kind made = absurd kind
input_calls old now opened writes ReadFault kind made = (opened, omega arith, made)
input_calls old now opened writes OutOfMemory kind made = all_up_to old now opened writes made
input_calls old now opened writes cause kind made = made

pub written_calls : (old now : Option ℕ) (opened writes : ℕ) (cause : Cause) → IsWritten cause
    → Calls old now (opened + writes) → CallsMade old now opened writes cause
written_calls old now opened writes Done kind made = made
written_calls old now opened writes (WalkErrors count) kind made = made
written_calls old now opened writes (Differs count) kind made = made
written_calls old now opened writes (Denied finding) kind made = made
written_calls old now opened writes WriteFault kind made = made
written_calls old now opened writes cause kind made = absurd kind

pub writes_named : (saved : Option Saved)
    → writes_of saved ≡ writes_of (option_map saved_name saved)
writes_named None = refl
writes_named (Some saved) = refl

pub none_named : (saved : Option Saved) → option_map saved_name saved ≡ None → saved ≡ None
none_named None is = refl
none_named (Some saved) is = absurd (cc)

-- ---- counts of the sink

pub line_later : (sink sink_now : SinkSeen) (line : List ℕ) → WritesLine sink sink_now line
    → sink.faults ≤ sink_now.faults
line_later sink sink_now line (inl whole) = omega (arith, whole.1)
line_later sink sink_now line (inr front) = front.1

pub reported_written : (cause : Cause) → IsReported cause → IsWritten cause
reported_written WriteFault reported = tt
reported_written cause reported = reported

-- ---- what is saved

pub stay_same : (old new : Option Files) (output : Option (List ℕ)) → new ≡ old
    → OthersStay old new output
stay_same old new None is = is
stay_same None new (Some name) is = tt
stay_same (Some old) None (Some name) is = absurd (cc)
stay_same (Some old) (Some new) (Some name) is =
    let same : new ≡ old = cc in ap (λ files. map.remove files name) same

dropped_twice : (b : Bool) (x y : Option (List ℕ)) → cond b None (cond b x y) ≡ cond b None y
dropped_twice true x y = refl
dropped_twice false x y = refl

removed_saved : (files : Files) (name text : List ℕ)
    → map.remove (map.insert files name text) name ≡ map.remove files name
removed_saved files name text =
    same_map nat_list_cmp_total (slice_cmp-IsAntisymmetric nat_cmp-IsAntisymmetric) _ _ (λ q.
    get-remove nat_list_cmp_total (map.insert files name text) name q
    ∙ ap (cond (eq_by_cmp (slice_cmp nat_cmp) q name) None)
    (get-insert nat_list_cmp_total files name text q)
    ∙ dropped_twice (eq_by_cmp (slice_cmp nat_cmp) q name) (Some text) (map.get files q)
    ∙ sym (get-remove nat_list_cmp_total files name q))

-- whatever the write of the file answers, all other files stay
pub others_stay : (old new : Option Files) (saved : Option Saved)
    (result : Result (Unit {0}) SaveFault) → Saves old new saved result
    → OthersStay old new (option_map saved_name saved)
others_stay old new None (Ok done) saves = saves
others_stay old new None (Err fault) saves = absurd saves
others_stay None new (Some saved) result saves = tt
others_stay (Some old) None (Some saved) result saves = saves
others_stay (Some old) (Some new) (Some saved) (Ok done) saves =
    ap (λ files. map.remove files saved.name) saves ∙ removed_saved old saved.name saved.text
others_stay (Some old) (Some new) (Some saved) (Err save.Failed) saves = saves
others_stay (Some old) (Some new) (Some saved) (Err save.OutOfMemory) saves =
    ap (λ files. map.remove files saved.name) saves

-- a text that was saved is among the files
pub all_saved : (old new : Option Files) (saved : Option Saved) → Saves old new saved (Ok tt)
    → IfSome old (λ known. new ≡ Some (files_with known saved))
all_saved None new saved saves = tt
all_saved (Some old) new None saves = saves
all_saved (Some old) None (Some saved) saves = absurd saves
all_saved (Some old) (Some new) (Some saved) saves = ap Some saves

-- a text for which there was no memory leaves all files
pub none_saved : (old new : Option Files) (saved : Option Saved)
    → Saves old new saved (Err save.OutOfMemory) → IfSome old (λ known. new ≡ Some known)
none_saved None new saved saves = tt
none_saved (Some old) new None saves = absurd saves
none_saved (Some old) None (Some saved) saves = absurd saves
none_saved (Some old) (Some new) (Some saved) saves = ap Some saves

-- only where a file is asked for can its write fail
pub failing_named : (old new : Option Files) (saved : Option Saved)
    → Saves old new saved (Err save.Failed) → is_some (option_map saved_name saved) ≡ true
failing_named old new None saves = absurd saves
failing_named old new (Some saved) saves = refl

-- ---- causes of a report

pub end_written : (end : End) → IsWritten (ending_cause end)
end_written ends.Done = tt
end_written (ends.WalkErrors count) = tt
end_written (ends.Differs count) = tt
end_written (ends.Denied finding) = tt

pub end_kept : (end : End) → ending_cause end ≡ WriteFault → ⊥
end_kept ends.Done is = absurd (cc)
end_kept (ends.WalkErrors count) is = absurd (cc)
end_kept (ends.Differs count) is = absurd (cc)
end_kept (ends.Denied finding) is = absurd (cc)

pub ends_reported : (meant : Result Ending Cause) (IsDone : Ending → Type 0) (end : End)
    → Reports meant IsDone (ending_cause end) → EndsAsMeant meant IsDone (ending_cause end)
ends_reported meant IsDone ends.Done reports = reports
ends_reported meant IsDone (ends.WalkErrors count) reports = reports
ends_reported meant IsDone (ends.Differs count) reports = reports
ends_reported meant IsDone (ends.Denied finding) reports = reports

pub same_known : (old new : Option Files) → new ≡ old → IfSome old (λ known. new ≡ Some known)
same_known None new is = tt
same_known (Some old) new is = is
