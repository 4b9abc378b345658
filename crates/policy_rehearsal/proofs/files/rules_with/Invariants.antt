use Rattle.std.proofs.Common.{◌≡◌}
use Rattle.std.specs.Prelude.{map, Ok}
use Rattle.context_syntax.specs.TypeNames.{NameSet, types_read}
use Rattle.policy_files.specs.Files.{types_from}
use Rattle.policy_rehearsal.specs.Files.{with_types}
use Rattle.policy_rehearsal.proofs.files.rules_with.Given as goal

-- the policies so far, with the types that the bytes are
abbrev pub invariant-policies : goal.invariant-policies
invariant-policies l = (types : NameSet) → types_from (types_read l.bytes) ≡ Ok types
    → l.rules ≡ map (with_types types) l.yielded
