-- What the lines of a file of users say: a name, a role and a home.
use Rattle.std.specs.Prelude.{ℕ, List, ◌∷◌, Result, Ok, Err, if◌then◌else◌}
use Rattle.label_base.specs.Lines.{lines_read}
use Rattle.label_base.specs.declared.lines.RefusedLine.{RefusedLine}
use Rattle.file_paths.specs.Path.{Path, path_read}
use Rattle.file_paths.specs.declared.path_fault.PathWhy.{PathWhy}
use Rattle.home_contexts.specs.User.{UserValue, is_user}
use Rattle.home_contexts.specs.declared.users_fault.NoUser.{NoUser}

abbrev pub no_user : NoUser
no_user = record {}

abbrev pub user_or_none : UserValue → Result UserValue NoUser
user_or_none user = if is_user user then Ok user else Err no_user

abbrev pub with_home : List ℕ → List ℕ → Result Path PathWhy → Result UserValue NoUser
with_home name role (Ok home) = user_or_none (record { name = name; role = role; home = home })
with_home name role (Err why) = Err no_user

-- the user that the fields of a line are: name, role and home, whatever follows
abbrev pub user_in : List (List ℕ) → Result UserValue NoUser
user_in (name ∷ role ∷ home ∷ more) = with_home name role (path_read home)
user_in fields = Err no_user

-- the users of a file, or its first refused line
abbrev pub users_of : List ℕ → Result (List UserValue) (RefusedLine NoUser)
users_of text = lines_read (λ number. user_in) text
