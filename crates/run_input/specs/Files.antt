-- The bytes of a file by its role, and what reading files leaves.
use Rattle.std.specs.Prelude.{◌≡◌, ℕ, ◌+◌, ◌≤◌, nat_lt, List, [], length, Option, Some, None}
use Rattle.std.specs.Prelude.{Result, Ok, Err, IfErr, IfSome, if◌then◌else◌}
use Rattle.input_output.specs.Store.{Calls, Files, content}
use Rattle.file_roles.specs.Roles.{role_name, may_be_absent, most_bytes}
use Rattle.file_roles.specs.declared.list.NamedFile.{NamedFile}
use Rattle.file_roles.specs.declared.role.FileRole.{FileRole}
use Rattle.run_faults.specs.Causes.{Counts, Gives, IsFileCause, and_then}
use Rattle.run_faults.specs.declared.cause.Cause.{Cause}
use Rattle.run_faults.specs.declared.cause.Cause.TheVariants.{Missing, Limit, OutOfMemory}
use Rattle.run_faults.specs.declared.cause.Cause.TheVariants.{ReadFault}
use Rattle.run_faults.specs.declared.cause.LimitKind.TheVariants.{File}

-- what files say, or the first refusal among them, and how many are opened up to there
pub record FilesSay (V : Type 0) : Type 0 where
  pub opened : ℕ
  pub says : Result V Cause

-- what needs no file
abbrev pub just : {V : Type 0} → Result V Cause → FilesSay V
just says = record { opened = 0; says = says }

-- how many files are opened behind a part, where it isn't refused
abbrev pub opened_next : {A : Type 0} → Result A Cause → (A → ℕ) → ℕ
opened_next (Ok value) next = next value
opened_next (Err cause) next = 0

-- the next part, which is read where the one before it gave a value
unfoldable pub read_on : {A B : Type 0} → FilesSay A → (A → FilesSay B) → FilesSay B
read_on part next = record {
  opened = part.opened + opened_next part.says (λ value. (next value).opened);
  says = and_then part.says (λ value. (next value).says);
}

-- no more calls than so many
abbrev pub CallsUpTo : Option ℕ → Option ℕ → ℕ → Type 0
CallsUpTo old now most = (made : ℕ) × (made ≤ most) × Calls old now made

-- Each file that is meant to be opened is, and no other. A failed read is that of a file that is
-- meant to be opened, so that no file before it is refused.
abbrev pub CauseOpens : Option ℕ → Option ℕ → (opened : ℕ) → Cause → Type 0
CauseOpens old now opened ReadFault = CallsUpTo old now opened
CauseOpens old now opened OutOfMemory = CallsUpTo old now opened
CauseOpens old now opened cause = Calls old now opened

abbrev pub OpensFile : {V : Type 0} → Option ℕ → Option ℕ → (opened : ℕ) → Result V Cause → Type 0
OpensFile old now opened (Ok value) = Calls old now opened
OpensFile old now opened (Err cause) = CauseOpens old now opened cause

-- what is left by reading files, and what it answers
pub record Reads {S V : Type 0} (files : S → Option Files) (calls : S → Option ℕ)
    (read_faults write_faults : S → ℕ) (meant : Files → FilesSay V) (store store_now : S)
    (result : Result V Cause) : Type 0 where
  pub same : files store_now ≡ files store
  pub unwritten : write_faults store_now ≡ write_faults store
  pub gives : IfSome (files store) (λ known. Gives (meant known).says result)
  pub opens : IfSome (files store) (λ known.
      OpensFile (calls store) (calls store_now) (meant known).opened result)
  pub counts : Counts (read_faults store) (read_faults store_now) result
  pub kinds : IfErr result IsFileCause

-- a file that is absent
abbrev pub absent : List NamedFile → FileRole → Result (List ℕ) Cause
absent files role =
    if may_be_absent role.part then Ok [] else Err (Missing (role_name files role))

abbrev pub file_bytes : List NamedFile → FileRole → Option (List ℕ) → Result (List ℕ) Cause
file_bytes files role None = absent files role
file_bytes files role (Some bytes) =
    if nat_lt (most_bytes role.part) (length bytes) then Err (Limit (File role)) else Ok bytes

-- the bytes of a file
unfoldable pub part_bytes : List NamedFile → FileRole → Files → Result (List ℕ) Cause
part_bytes files role known = file_bytes files role (content known (role_name files role))

-- the same, as one file that is opened
abbrev pub part_says : List NamedFile → FileRole → Files → FilesSay (List ℕ)
part_says files role known = record { opened = 1; says = part_bytes files role known }
