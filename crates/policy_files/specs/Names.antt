-- The names of a policy's files.
use Rattle.std.specs.Prelude.{ℕ, List, [], ◌∷◌, ◌++◌}
use Rattle.file_roles.specs.declared.role.Part.TheVariants.{Base, Homedirs, Local, Subs, SubsDist}
use Rattle.file_roles.specs.declared.role.Part.TheVariants.{Customizable}
use Rattle.file_roles.specs.Roles.{file_named, role}
use Rattle.file_roles.specs.declared.list.NamedFile.{NamedFile}
use Rattle.policy_files.specs.declared.names.TheConstants.{CUSTOMIZABLE_TYPES, HOMEDIRS, LOCAL}
use Rattle.policy_files.specs.declared.names.TheConstants.{SUBS, SUBS_DIST}

-- the base file of a policy, and those that stand beside it, in the order in which they are read
abbrev pub policy_names : (version : ℕ) → (base : List ℕ) → List NamedFile
policy_names version base =
    file_named (role Base version) base
    ∷ file_named (role Homedirs version) (base ++ HOMEDIRS.now)
    ∷ file_named (role Local version) (base ++ LOCAL.now)
    ∷ file_named (role Subs version) (base ++ SUBS.now)
    ∷ file_named (role SubsDist version) (base ++ SUBS_DIST.now)
    ∷ []

-- the file of the customizable types
abbrev pub types_name : NamedFile
types_name = file_named (role Customizable 0) CUSTOMIZABLE_TYPES.now
