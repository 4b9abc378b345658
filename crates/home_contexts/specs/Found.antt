-- What the files say that genhomedircon reads: the text that it writes.
use Rattle.std.specs.Prelude.{ℕ, List, Result, Ok, Err}
use Rattle.input_output.specs.Store.{Files}
use Rattle.label_base.specs.declared.lines.RefusedLine.{RefusedLine}
use Rattle.file_roles.specs.Roles.{role}
use Rattle.file_roles.specs.declared.list.NamedFile.{NamedFile}
use Rattle.file_roles.specs.declared.role.Part.TheVariants.{Homedirs, Template, Users}
use Rattle.run_faults.specs.declared.cause.Cause.{Cause}
use Rattle.run_faults.specs.declared.cause.Cause.TheVariants.{Limit, TemplateRefused, UsersRefused}
use Rattle.run_faults.specs.declared.cause.LimitKind.TheVariants.{File, Specs}
use Rattle.run_input.specs.Files.{FilesSay, just, part_says, read_on}
use Rattle.home_contexts.specs.Homes.{expansion}
use Rattle.home_contexts.specs.User.{UserValue}
use Rattle.home_contexts.specs.UserLines.{users_of}
use Rattle.home_contexts.specs.declared.homes_fault.HomesWhy.{HomesWhy}
use Rattle.home_contexts.specs.declared.homes_fault.HomesWhy.TheVariants.{Refused, TooLong}
use Rattle.home_contexts.specs.declared.homes_fault.HomesWhy.TheVariants.{TooManySpecs}
use Rattle.home_contexts.specs.declared.users_fault.NoUser.{NoUser}

abbrev pub users_from : Result (List UserValue) (RefusedLine NoUser)
    → Result (List UserValue) Cause
users_from (Ok users) = Ok users
users_from (Err refused) = Err (UsersRefused refused.number)

-- how a run ends whose template gives no text; one that is too long is the limit of the file that
-- was to get it
abbrev pub homes_refusal : HomesWhy → Cause
homes_refusal (Refused refused) = TemplateRefused refused.number refused.why
homes_refusal TooManySpecs = Limit Specs
homes_refusal TooLong = Limit (File (role Homedirs 0))

abbrev pub text_from : Result (List ℕ) HomesWhy → Result (List ℕ) Cause
text_from (Ok text) = Ok text
text_from (Err why) = Err (homes_refusal why)

unfoldable pub users_found : List NamedFile → Files → FilesSay (List UserValue)
users_found list files =
    read_on (part_says list (role Users 0) files) (λ bytes. just (users_from (users_of bytes)))

-- the text that a template gives for the users
unfoldable pub text_for : List NamedFile → (template : List ℕ) → Files → FilesSay (List ℕ)
text_for list template files =
    read_on (users_found list files) (λ users. just (text_from (expansion template users)))

-- the text, or the first refusal; the users are read before a line of the template is looked at
unfoldable pub text_found : List NamedFile → Files → FilesSay (List ℕ)
text_found list files =
    read_on (part_says list (role Template 0) files) (λ template. text_for list template files)
