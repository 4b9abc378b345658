use Rattle.std.proofs.Common.{◌≡◌, ◌++◌, [], drop}
use Rattle.home_contexts.specs.Making.{first_flags, key_texts}
use Rattle.home_contexts.proofs.firsts.first_flags.Given as goal

abbrev pub invariant-users : goal.invariant-users
invariant-users l = l.flags.items ++ first_flags (key_texts l.seen.keys) (drop l.user-index l.users)
    ≡ first_flags [] l.users
