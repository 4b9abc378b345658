-- What matchpathcon reads, and what it answers.
use Rattle.std.specs.Prelude.{List, [], Option, Some, None, Ok, false, if◌then◌else◌}
use Rattle.input_output.specs.Store.{Files}
use Rattle.file_roles.specs.declared.list.NamedFile.{NamedFile}
use Rattle.context_syntax.specs.TypeNames.{set_of}
use Rattle.find_records.specs.declared.format.Format.{Format}
use Rattle.label_rules.specs.declared.rules.Rules.{Rules}
use Rattle.run_input.specs.Files.{FilesSay, just, read_on}
use Rattle.policy_files.specs.Files.{version_specs, subs_for}
use Rattle.policy_files.specs.Names.{policy_names}
use Rattle.policy_files.specs.Rules.{rules_with}
use Rattle.tool_runs.specs.Plan.{Plan, plan_by}
use Rattle.path_lookups.specs.Answer.{lookups_of}
use Rattle.path_lookups.specs.declared.words.LookupWords.{LookupWords}

-- the rules, for which no type is customizable
unfoldable pub rules_found : List NamedFile → Files → FilesSay Rules
rules_found list files =
    read_on (version_specs list 0 files) (λ specs.
    read_on (subs_for list 0 files) (λ subs.
    just (Ok (rules_with specs subs (set_of [])))))

abbrev pub lookup_names : LookupWords → List NamedFile
lookup_names words = policy_names 0 words.base

-- records are taken for -V alone
abbrev pub lookup_records : LookupWords → Option Format
lookup_records words = if words.verify then Some words.format else None

abbrev pub lookup_plan : LookupWords → Plan
lookup_plan words = plan_by (lookup_names words) (lookup_records words) false None
    (rules_found (lookup_names words)) (λ rules entries. Ok (lookups_of words rules entries))
