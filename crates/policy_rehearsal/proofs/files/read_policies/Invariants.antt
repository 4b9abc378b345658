use Rattle.std.specs.Prelude.{Ok}
use Rattle.run_input.specs.Files.{Reads}
use Rattle.policy_rehearsal.specs.Files.{policies_below}
use Rattle.policy_rehearsal.proofs.files.read_policies.Given as goal

-- the policies so far were read
abbrev pub invariant-versions : goal.invariant-versions
invariant-versions g l =
    Reads g.S.Store.files g.S.Store.calls g.S.Store.read_faults g.S.Store.write_faults
    (policies_below l.list l.version) l.initial.store l.store (Ok l.policies)
