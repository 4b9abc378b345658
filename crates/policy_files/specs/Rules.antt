-- The rules that the files of a policy give.
use Rattle.std.specs.Prelude.{ℕ, List, Ok}
use Rattle.input_output.specs.Store.{Files}
use Rattle.file_roles.specs.declared.list.NamedFile.{NamedFile}
use Rattle.context_syntax.specs.TypeNames.{NameSet}
use Rattle.spec_reader.specs.SpecValue.{SpecValue}
use Rattle.path_subs.specs.declared.subs.Subs as both
use Rattle.label_rules.specs.declared.rules.Rules.{Rules}
use Rattle.run_input.specs.Files.{FilesSay, just, read_on}
use Rattle.policy_files.specs.Files.{customizable_types, version_specs, subs_for}

-- specifications, both lists of substitutions, and the customizable types
abbrev pub rules_with : List SpecValue → both.Subs → NameSet → Rules
rules_with specs subs types = record { rules = specs; subs = subs; types = types }

-- what is read behind the specifications
unfoldable pub rest_for : List NamedFile → Files → FilesSay (both.Subs × NameSet)
rest_for list files =
    read_on (subs_for list 0 files) (λ subs.
    read_on (customizable_types list files) (λ types. just (Ok (subs, types))))

-- the rules of the only policy of a run; each file's refusals come before those of the next
unfoldable pub rules_for : List NamedFile → Files → FilesSay Rules
rules_for list files =
    read_on (version_specs list 0 files) (λ specs.
    read_on (rest_for list files) (λ rest. just (Ok (rules_with specs rest.0 rest.1))))
