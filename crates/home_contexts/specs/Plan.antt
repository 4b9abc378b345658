-- What genhomedircon reads, and what it writes.
use Rattle.std.specs.Prelude.{ℕ, List, [], ◌∷◌, None, Some, Ok, false}
use Rattle.file_roles.specs.Roles.{file_named, role}
use Rattle.file_roles.specs.declared.list.NamedFile.{NamedFile}
use Rattle.file_roles.specs.declared.role.Part.TheVariants.{Homedirs, Template, Users}
use Rattle.run_endings.specs.declared.ending.End.TheVariants.{Done}
use Rattle.run_endings.specs.declared.ending.Ending.{Ending}
use Rattle.tool_runs.specs.Plan.{Plan, plan_by}
use Rattle.home_contexts.specs.Found.{text_found}
use Rattle.home_contexts.specs.declared.asked.HomesWords.{HomesWords}

-- the template and the users, which are read; behind them the file that gets the text, which isn't
-- read, and stands here since the fault line of a text that is too long names it
abbrev pub homes_names : HomesWords → List NamedFile
homes_names words =
    file_named (role Template 0) words.template
    ∷ file_named (role Users 0) words.users
    ∷ file_named (role Homedirs 0) words.output
    ∷ []

-- the text is saved, and nothing reported
abbrev pub homes_ending : HomesWords → (text : List ℕ) → Ending
homes_ending words text = record {
  report = [];
  end = Done;
  saved = Some (record { name = words.output; text = text });
}

abbrev pub homes_plan : HomesWords → Plan
homes_plan words = plan_by (homes_names words) None false (Some words.output)
    (text_found (homes_names words)) (λ text entries. Ok (homes_ending words text))
