-- The grammar of a file of users: a name, a role and a home on each line.
use Rattle.std.specs.Prelude.{◌≡◌, ℕ, List, ◌∷◌, Result, Ok, Err}
use Rattle.label_base.specs.LineGrammar.{LinesMean}
use Rattle.label_base.specs.declared.lines.RefusedLine.{RefusedLine}
use Rattle.file_paths.specs.Path.{path_read}
use Rattle.home_contexts.specs.User.{IsUser, UserValue}
use Rattle.home_contexts.specs.declared.users_fault.NoUser.{NoUser}

-- the fields are name, role and home, and perhaps more that are passed over
pub record AreUserFields (fields : List (List ℕ)) (user : UserValue) : Type 0 where
  pub home : List ℕ
  pub rest : List (List ℕ)
  pub cut : fields ≡ user.name ∷ user.role ∷ home ∷ rest
  pub path : path_read home ≡ Ok user.home
  pub parts : IsUser user

-- what the fields of a line mean, whatever its number
abbrev pub UserFieldsMean : ℕ → List (List ℕ) → Result UserValue NoUser → Type 0
UserFieldsMean number fields (Ok user) = AreUserFields fields user
UserFieldsMean number fields (Err why) = (user : UserValue) → ¬ AreUserFields fields user

-- what the text of a file means
abbrev pub UsersMean : List ℕ → Result (List UserValue) (RefusedLine NoUser) → Type 0
UsersMean = LinesMean UserFieldsMean
