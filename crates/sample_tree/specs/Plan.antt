-- What a sample reads, all of it its own, and what it answers.
use Rattle.std.specs.Prelude.{ℕ, List, [], ◌∷◌, ◌++◌, Result, Ok, None, false}
use Rattle.std.specs.FinMap as map_of
use Rattle.input_output.specs.Store.{Files}
use Rattle.file_roles.specs.declared.list.NamedFile.{NamedFile}
use Rattle.find_records.specs.declared.format.Format.TheVariants.{One}
use Rattle.label_rules.specs.declared.rules.Rules.{Rules}
use Rattle.run_faults.specs.Causes.{and_then}
use Rattle.run_faults.specs.declared.cause.Cause.{Cause}
use Rattle.run_input.specs.Files.{FilesSay, just}
use Rattle.run_input.specs.Records.{records_read}
use Rattle.run_endings.specs.declared.ending.Ending.{Ending}
use Rattle.policy_files.specs.Names.{policy_names, types_name}
use Rattle.policy_files.specs.Rules.{rules_for}
use Rattle.tool_runs.specs.Plan.{Plan, plan_by}
use Rattle.sample_tree.specs.Sample.{sample_records}
use Rattle.sample_tree.specs.Walks.{sample_ending}
use Rattle.sample_tree.specs.declared.records.TheConstants.{SPECS}
use Rattle.sample_tree.specs.declared.tool.TheConstants.{OWN_FILE}
use Rattle.sample_tree.specs.declared.words.SampleWords.{SampleWords}

-- the base file is the only one
abbrev pub own_files : Files
own_files = map_of.insert map_of.empty OWN_FILE.now SPECS.now

abbrev pub own_names : List NamedFile
own_names = policy_names 0 OWN_FILE.now ++ types_name ∷ []

-- what is written of a sample of so many files, by its rules
unfoldable pub answered_for : Rules → ℕ → Result Ending Cause
answered_for rules count =
    and_then (records_read One (sample_records count)) (λ entries. Ok (sample_ending rules entries))

-- what its own file says, for which no file of the store is opened
abbrev pub own_rules : FilesSay Rules
own_rules = just (rules_for own_names own_files).says

-- neither the store nor the input is looked at
abbrev pub sample_plan : SampleWords → Plan
sample_plan words = plan_by [] None false None (λ files. own_rules)
    (λ rules entries. answered_for rules words.count)
