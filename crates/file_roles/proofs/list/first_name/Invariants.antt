use Rattle.std.proofs.Common.{◌≡◌, drop}
use Rattle.file_roles.specs.Roles.{role_name}
use Rattle.file_roles.proofs.list.first_name.Given as goal

abbrev pub invariant-files : goal.invariant-files
invariant-files l = role_name (drop l.file-index l.files) l.role ≡ role_name l.files l.role
