-- An audit ends well exactly where the files are what the run writes.
use Rattle.std.proofs.Common.{◌≡◌, ◌∙◌, ap, sym, refl, subst, ℕ, Bool, true, false, cond, List}
use Rattle.std.proofs.Common.{length}
use Rattle.std.specs.Prelude.{◌↔◌, Option, Some, None, Result, Ok, Err, IfSome, nat_lt}
use Rattle.std.proofs.lemmas.Option.{same_Some}
use Rattle.input_output.specs.Store.{Files, content}
use Rattle.file_roles.specs.Roles.{may_be_absent, most_bytes, role, role_name}
use Rattle.file_roles.specs.declared.list.NamedFile.{NamedFile}
use Rattle.file_roles.specs.declared.role.FileRole.{FileRole}
use Rattle.file_roles.specs.declared.role.Part.TheVariants.{Output, Report}
use Rattle.report_text.specs.Texts.{report_of}
use Rattle.setfattr_dump.specs.Texts.{dump_text}
use Rattle.find_records.specs.Record.{Record}
use Rattle.tree_model.specs.Selection.{selected_by}
use Rattle.run_faults.specs.Causes.{and_then}
use Rattle.run_faults.specs.declared.cause.Cause.{Cause}
use Rattle.run_faults.specs.declared.cause.Cause.TheVariants.{Limit}
use Rattle.run_faults.specs.declared.cause.LimitKind.TheVariants.{File}
use Rattle.run_faults.specs.declared.finding.Finding.{Finding}
use Rattle.run_faults.specs.declared.finding.Finding.TheVariants.{Agrees, InDump, InReport}
use Rattle.run_input.specs.Files.{FilesSay, absent, file_bytes, part_bytes, part_says, read_on}
use Rattle.run_input.specs.Records.{entries_for}
use Rattle.run_endings.specs.declared.ending.End.TheVariants.{Done}
use Rattle.run_endings.specs.declared.ending.Ending.{Ending}
use Rattle.tool_runs.specs.Plan.{answer_by}
use Rattle.relabel_core.specs.Changes.{changes}
use Rattle.relabel_core.specs.Stored.{digests_by}
use Rattle.relabel_core.specs.Walk.{Walk, messages}
use Rattle.relabel_core.specs.Walked.{walk_for}
use Rattle.tree_relabelling.specs.Answer.{relabel_ending, relabelling_of, saved_as}
use Rattle.tree_relabelling.specs.declared.found.RelabelFiles.{RelabelFiles}
use Rattle.tree_relabelling.specs.declared.words.RelabelWords.{RelabelWords}
use Rattle.label_audit.specs.Agreement.{AuditTellsOfRun, HoldRun}
use Rattle.label_audit.specs.Answer.{audit_of, finding_end}
use Rattle.label_audit.specs.Finding.{finding_of}
use Rattle.label_audit.specs.Found.{audit_found, dump_for, given_dump, run_found}
use Rattle.label_audit.specs.Plan.{audit_names}
use Rattle.label_audit.specs.Whole.{AreWhole}
use Rattle.label_audit.specs.declared.found.AuditFiles.{AuditFiles}
use Rattle.label_audit.specs.declared.words.AuditWords.{AuditWords}
use Rattle.label_audit.proofs.WholeLemmas.{agrees_where_whole}

-- ---- stages

parted : {A B : Type 0} (stage : Result A Cause) (next : A → Result B Cause) (value : B)
    → and_then stage next ≡ Ok value → (a : A) × (stage ≡ Ok a) × (next a ≡ Ok value)
parted (Ok a) next value h = (a, refl, h)
parted (Err cause) next value h = absurd cc

went_on : {A B : Type 0} (part : FilesSay A) (next : A → FilesSay B) (value : B)
    → (read_on part next).says ≡ Ok value
    → (a : A) × (part.says ≡ Ok a) × ((next a).says ≡ Ok value)
unfolding read_on
went_on part next value h = parted part.says (λ a. (next a).says) value h

same_ok : {A : Type 0} (a b : A) → ◌≡◌ {A = Result A Cause} (Ok a) (Ok b) → a ≡ b
same_ok a b h = cc

-- ---- a file that may not be absent

not_absent : (list : List NamedFile) (r : FileRole) (bytes : List ℕ) → may_be_absent r.part ≡ false
    → absent list r ≡ Ok bytes → ⊥
not_absent list r bytes must h = let e = rw must at h in absurd cc

given_by_limit : (bytes found : List ℕ) (cause : Cause) (long : Bool)
    → ◌≡◌ {A = Result (List ℕ) Cause} (cond long (Err cause) (Ok found)) (Ok bytes)
    → found ≡ bytes
given_by_limit bytes found cause true h = absurd cc
given_by_limit bytes found cause false h = cc

held : (list : List NamedFile) (r : FileRole) (found : Option (List ℕ)) (bytes : List ℕ)
    → may_be_absent r.part ≡ false → file_bytes list r found ≡ Ok bytes → found ≡ Some bytes
held list r None bytes must h = absurd (not_absent list r bytes must h)
held list r (Some found) bytes must h =
    ap (λ (bs : List ℕ). Some bs) (given_by_limit bytes found (Limit (File r))
    (nat_lt (most_bytes r.part) (length found)) h)

part_held : (list : List NamedFile) (r : FileRole) (known : Files) (bytes : List ℕ)
    → may_be_absent r.part ≡ false → part_bytes list r known ≡ Ok bytes
    → content known (role_name list r) ≡ Some bytes
unfolding part_bytes
part_held list r known bytes must h = held list r (content known (role_name list r)) bytes must h

report_named : (report : List ℕ) (inner : RelabelWords) (stored output : Option (List ℕ))
    → stored ≡ inner.stored → output ≡ inner.output
    → role_name (audit_names (record { report = report; inner = inner })) (role Report 0) ≡ report
report_named report inner None output s o = rw (← s) refl
report_named report inner (Some name) output s o = rw (← s) refl

output_named : (report name : List ℕ) (inner : RelabelWords) (stored : Option (List ℕ))
    → stored ≡ inner.stored → inner.output ≡ Some name
    → role_name (audit_names (record { report = report; inner = inner })) (role Output 0) ≡ name
output_named report name inner None s o = rw (← s, o) refl
output_named report name inner (Some stored) s o = rw (← s, o) refl

-- ---- the dump

-- what was read of the dump is what the file of -o holds
DumpHeld : Files → Option (List ℕ) → Option (List ℕ) → Type 0
DumpHeld known None dump = dump ≡ None
DumpHeld known (Some name) None = ⊥
DumpHeld known (Some name) (Some bytes) = content known name ≡ Some bytes

dump_read : (words : AuditWords) (known : Files) (output dump : Option (List ℕ))
    → words.inner.output ≡ output
    → (dump_for output (audit_names words) known).says ≡ Ok dump → DumpHeld known output dump
unfolding DumpHeld given_dump
dump_read words known None dump o h = sym (same_ok None dump h)
dump_read words known (Some name) dump o h =
    let (bytes, a, next) = went_on (part_says (audit_names words) (role Output 0) known) _ dump h in
    subst (DumpHeld known (Some name)) (same_ok (Some bytes) dump next)
    (subst (λ n. content known n ≡ Some bytes)
    (output_named words.report name words.inner words.inner.stored refl o)
    (part_held (audit_names words) (role Output 0) known bytes refl a))

dump_whole : (known : Files) (output dump : Option (List ℕ)) (text : List ℕ)
    → DumpHeld known output dump
    → IfSome dump (λ bytes. bytes ≡ text)
    ↔ IfSome (saved_as output text) (λ saved. content known saved.name ≡ Some saved.text)
unfolding DumpHeld
dump_whole known None dump text h = (
  λ whole. tt,
  λ saved. subst (λ (d : Option (List ℕ)). IfSome d (λ bytes. bytes ≡ text)) (sym h) tt,
)
dump_whole known (Some name) None text h = absurd h
dump_whole known (Some name) (Some bytes) text h = (
  λ whole. h ∙ ap (λ (bs : List ℕ). Some bs) whole,
  λ saved. same_Some bytes text (sym h ∙ saved),
)

-- ---- both plans

ends_well : (finding : Finding) → (finding_end finding ≡ Done) ↔ (finding ≡ Agrees)
ends_well Agrees = (λ h. refl, λ h. refl)
ends_well (InReport piece) = (λ h. absurd cc, λ h. absurd cc)
ends_well (InDump piece) = (λ h. absurd cc, λ h. absurd cc)

-- the walk of the run
run_walk : RelabelWords → RelabelFiles → List Record → Walk
run_walk words found entries =
    walk_for entries words.choice found.rules words.options
    (digests_by found.stored.sections entries)

over_walk : (words : AuditWords) (known : Files) (w : Walk) (found : AuditFiles)
    (finding : Finding) → ((finding ≡ Agrees) ↔ AreWhole w found.report found.dump)
    → content known words.report ≡ Some found.report
    → DumpHeld known words.inner.output found.dump
    → (finding_end finding ≡ Done)
    ↔ HoldRun words known (relabel_ending words.inner.output w)
over_walk words known w found finding whole report dump =
    let text = dump_text (changes w) in
    let both = dump_whole known words.inner.output found.dump text dump in (
      λ well.
          let are = whole.0 ((ends_well finding).0 well) in
          record {
            report = report ∙ ap (λ (bs : List ℕ). Some bs) are.0;
            dump = both.0 are.1;
          },
      λ holds.
          (ends_well finding).1 (whole.1 (
            same_Some found.report (report_of (messages w)) (sym report ∙ holds.report),
            both.1 holds.dump,
          )),
    )

tells : (words : AuditWords) (known : Files) (found : AuditFiles) (entries : List Record)
    → content known words.report ≡ Some found.report
    → DumpHeld known words.inner.output found.dump
    → ((audit_of words found entries).end ≡ Done)
    ↔ HoldRun words known (relabelling_of words.inner found.run entries)
unfolding audit_of relabelling_of
tells words known found entries report dump =
    let w = walk_for entries words.inner.choice found.run.rules words.inner.options
    (digests_by found.run.stored.sections entries) in
    let operands = words.inner.choice.operands in
    let absent = (selected_by words.inner.choice entries).absent in
    over_walk words known w found (finding_of w operands absent found.report found.dump)
    (agrees_where_whole w operands absent found.report found.dump refl) report dump

record ReadFiles (words : AuditWords) (known : Files) (found : AuditFiles) : Type 0 where
  pub run : (run_found words.inner known).says ≡ Ok found.run
  pub report : content known words.report ≡ Some found.report
  pub dump : DumpHeld known words.inner.output found.dump

files_read : (words : AuditWords) (known : Files) (found : AuditFiles)
    → (audit_found words (audit_names words) known).says ≡ Ok found → ReadFiles words known found
unfolding audit_found
files_read words known found h =
    let (run, a, h1) = went_on (run_found words.inner known) _ found h in
    let (report, b, h2) =
    went_on (part_says (audit_names words) (role Report 0) known) _ found h1 in
    let (dump, c, h3) = went_on (dump_for words.inner.output (audit_names words) known) _ found
    h2 in
    subst (ReadFiles words known)
    (same_ok (record { run = run; report = report; dump = dump }) found h3) (record {
      run = a;
      report = subst (λ n. content known n ≡ Some report)
          (report_named words.report words.inner words.inner.stored words.inner.output refl refl)
          (part_held (audit_names words) (role Report 0) known report refl b);
      dump = dump_read words known words.inner.output dump refl c;
    })

pub audit_tells_of_run : AuditTellsOfRun
unfolding answer_by
audit_tells_of_run words known input run audited runs audits =
    let (found, a, h1) = parted (audit_found words (audit_names words) known).says _ audited
    audits in
    let (entries, b, h2) = parted (entries_for (Some words.inner.options.format) input) _ audited
    h1 in
    let (ran, c, k1) = parted (run_found words.inner known).says _ run runs in
    let (entered, d, k2) = parted (entries_for (Some words.inner.options.format) input) _ run k1 in
    let read = files_read words known found a in
    let same_files : ran ≡ found.run = same_ok ran found.run (sym c ∙ read.run) in
    let same_entries : entered ≡ entries = same_ok entered entries (sym d ∙ b) in
    let is_run : relabelling_of words.inner found.run entries ≡ run =
    ap (λ (f : RelabelFiles). relabelling_of words.inner f entries) (sym same_files)
    ∙ ap (λ (es : List Record). relabelling_of words.inner ran es) (sym same_entries)
    ∙ same_ok (relabelling_of words.inner ran entered) run k2 in
    let is_audit : audit_of words found entries ≡ audited =
    same_ok (audit_of words found entries) audited h2 in
    subst (λ (r : Ending). (audited.end ≡ Done) ↔ HoldRun words known r) is_run
    (subst (λ (r : Ending). (r.end ≡ Done)
    ↔ HoldRun words known (relabelling_of words.inner found.run entries)) is_audit
    (tells words known found entries read.report read.dump))
