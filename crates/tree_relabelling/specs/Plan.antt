-- What setfiles and restorecon read, and what they answer.
use Rattle.std.specs.Prelude.{ℕ, List, [], ◌∷◌, ◌++◌, Option, Some, None, Ok}
use Rattle.file_roles.specs.declared.role.Part.TheVariants.{Stored}
use Rattle.file_roles.specs.Roles.{file_named, role}
use Rattle.file_roles.specs.declared.list.NamedFile.{NamedFile}
use Rattle.policy_files.specs.Names.{policy_names, types_name}
use Rattle.tool_runs.specs.Plan.{Plan, plan_by}
use Rattle.tree_relabelling.specs.Answer.{relabelling_of}
use Rattle.tree_relabelling.specs.Found.{found_for}
use Rattle.tree_relabelling.specs.declared.words.RelabelWords.{RelabelWords}

-- the file of the stored digests, where there is one
abbrev pub stored_names : Option (List ℕ) → List NamedFile
stored_names None = []
stored_names (Some name) = file_named (role Stored 0) name ∷ []

-- the files of the policy, the customizable types, then the stored digests
abbrev pub relabel_names : RelabelWords → List NamedFile
relabel_names words = policy_names 0 words.base ++ types_name ∷ stored_names words.stored

abbrev pub relabel_plan : RelabelWords → Plan
relabel_plan words = plan_by (relabel_names words) (Some words.options.format) words.soft_errors
    words.output
    (found_for words (relabel_names words))
    (λ found entries. Ok (relabelling_of words found entries))
