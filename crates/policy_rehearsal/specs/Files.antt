-- What the files of several policies say.
use Rattle.std.specs.Prelude.{ℕ, zero, suc, ◌+◌, List, [], ◌∷◌, ◌++◌, map, Result, Ok}
use Rattle.input_output.specs.Store.{Files}
use Rattle.file_roles.specs.Roles.{role}
use Rattle.file_roles.specs.declared.list.NamedFile.{NamedFile}
use Rattle.file_roles.specs.declared.role.Part.TheVariants.{Customizable}
use Rattle.context_syntax.specs.TypeNames.{NameSet, types_read}
use Rattle.label_rules.specs.declared.rules.Rules.{Rules}
use Rattle.run_faults.specs.Causes.{and_then}
use Rattle.run_faults.specs.declared.cause.Cause.{Cause}
use Rattle.run_input.specs.Files.{FilesSay, just, part_says, read_on}
use Rattle.policy_files.specs.Files.{version_specs, subs_for, types_from}
use Rattle.policy_files.specs.Names.{policy_names, types_name}
use Rattle.policy_files.specs.Rules.{rules_with}
use Rattle.policy_rehearsal.specs.declared.files.Policy.{Policy}

-- the files of each policy, which are numbered from this number on
abbrev pub version_names : ℕ → (bases : List (List ℕ)) → List NamedFile
version_names version [] = []
version_names version (base ∷ bases) = policy_names version base ++ version_names (version + 1)
    bases

-- behind them that of the customizable types, which all have in common
abbrev pub files_named : (bases : List (List ℕ)) → List NamedFile
files_named bases = version_names 0 bases ++ types_name ∷ []

-- what the files of one policy say
unfoldable pub policy_for : List NamedFile → (version : ℕ) → Files → FilesSay Policy
policy_for list version files =
    read_on (version_specs list version files) (λ specs.
    read_on (subs_for list version files) (λ subs.
    just (Ok (record { specs = specs; subs = subs }))))

-- those of the policies with the numbers below n, each whole before the next
unfoldable pub policies_below : List NamedFile → ℕ → Files → FilesSay (List Policy)
policies_below list zero files = just (Ok [])
policies_below list (suc n) files =
    read_on (policies_below list n files) (λ before.
    read_on (policy_for list n files) (λ policy. just (Ok (before ++ policy ∷ []))))

abbrev pub with_types : NameSet → Policy → Rules
with_types types policy = rules_with policy.specs policy.subs types

-- each policy with the types in these bytes
abbrev pub rules_by : List Policy → (bytes : List ℕ) → Result (List Rules) Cause
rules_by policies bytes =
    and_then (types_from (types_read bytes)) (λ types. Ok (map (with_types types) policies))

-- the rules of so many policies, or the first refusal: the customizable types are read last
unfoldable pub rules_read : List NamedFile → (count : ℕ) → Files → FilesSay (List Rules)
rules_read list count files =
    read_on (policies_below list count files) (λ policies.
    read_on (part_says list (role Customizable 0) files) (λ bytes. just (rules_by policies bytes)))
