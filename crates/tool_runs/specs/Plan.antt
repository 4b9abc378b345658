-- What the words of a tool ask for: which files it reads, which records it takes, where it writes,
-- and what it is to answer.
use Rattle.std.specs.Prelude.{◌≡◌, ℕ, Bool, false, List, [], Option, Some, None, Result, Ok, Err}
use Rattle.input_output.specs.Store.{Files}
use Rattle.file_roles.specs.declared.list.NamedFile.{NamedFile}
use Rattle.find_records.specs.Record.{Record}
use Rattle.find_records.specs.declared.format.Format.{Format}
use Rattle.tool_words.specs.declared.usage.Usage.{Usage}
use Rattle.run_faults.specs.Causes.{and_then}
use Rattle.run_faults.specs.declared.cause.Cause.{Cause}
use Rattle.run_faults.specs.declared.cause.Cause.TheVariants as causes
use Rattle.run_input.specs.Files.{FilesSay}
use Rattle.run_input.specs.Records.{entries_for, input_for}
use Rattle.run_endings.specs.declared.ending.Ending.{Ending}

pub record Plan : Type 0 where
  -- the files that are read, in order
  pub reads : List NamedFile
  -- the input is read as records of this format, or left alone
  pub records : Option Format
  -- errors of the walk end with status 1
  pub is_soft : Bool
  -- the name of the file that is written
  pub output : Option (List ℕ)
  -- the first refusal of the files
  pub refused : Files → Option Cause
  -- how many files are opened, up to the first that is refused
  pub opened : Files → ℕ
  -- what is written at the end, by the files and the input, or the first refusal
  pub answer : Files → List ℕ → Result Ending Cause

-- ---- plans that are put together

abbrev pub refusal_in : {V : Type 0} → Result V Cause → Option Cause
refusal_in (Ok value) = None
refusal_in (Err cause) = Some cause

-- the files are read, then the input, and then both are answered; each refusal comes before the
-- next part is looked at
unfoldable pub answer_by : {R : Type 0} → Option Format → (Files → Result R Cause)
    → (R → List Record → Result Ending Cause) → Files → List ℕ → Result Ending Cause
answer_by records read answered known input =
    and_then (read known) (λ found. and_then (entries_for records input) (answered found))

-- a plan of a tool that reads these files, which give a value or are refused, and that answers by
-- this value and the entries of the input
abbrev pub plan_by : {R : Type 0} → List NamedFile → Option Format → (soft : Bool) → Option (List ℕ)
    → (Files → FilesSay R) → (R → List Record → Result Ending Cause) → Plan
plan_by reads records soft output read answered = record {
  reads = reads;
  records = records;
  is_soft = soft;
  output = output;
  refused = λ known. refusal_in (read known).says;
  opened = λ known. (read known).opened;
  answer = answer_by records (λ known. (read known).says) answered;
}

-- what words ask for by their meaning to a tool
abbrev pub planned : {W : Type 0} → (W → Plan) → Result W Usage → Result Plan Usage
planned plan (Ok words) = Ok (plan words)
planned plan (Err wrong) = Err wrong

-- ---- where the words may be wrong

abbrev pub output_in : Result Plan Usage → Option (List ℕ)
output_in (Ok plan) = plan.output
output_in (Err wrong) = None

abbrev pub is_soft_in : Result Plan Usage → Bool
is_soft_in (Ok plan) = plan.is_soft
is_soft_in (Err wrong) = false

-- wrong words name no file
abbrev pub reads_in : Result Plan Usage → List NamedFile
reads_in (Ok plan) = plan.reads
reads_in (Err wrong) = []

-- the bytes of the input that count
abbrev pub input_in : Result Plan Usage → Option (List ℕ) → Option (List ℕ)
input_in (Ok plan) left = input_for plan.records left
input_in (Err wrong) left = Some []

-- what is to be written, or the first refusal
abbrev pub answer_in : Result Plan Usage → Files → List ℕ → Result Ending Cause
answer_in (Ok plan) known input = plan.answer known input
answer_in (Err wrong) known input = Err (causes.Usage wrong.index wrong.why)
