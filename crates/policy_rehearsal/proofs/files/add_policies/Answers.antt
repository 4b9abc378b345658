use Rattle.std.proofs.Common.{ap, ◌+◌, arith}
use Rattle.policy_rehearsal.proofs.FileLemmas.{names_end, names_next}
use Rattle.policy_rehearsal.proofs.files.add_policies.Goals as goal

pub bases-preserved : goal.bases-preserved
bases-preserved c = record {
  list = names_next c.args.bases.now c.bases.base-index c.bases.version c.base-item.result _
      c.bases.list _ _
      c.bases-test.true c.base-item.is c.as_str.ensures c.bases.invariant.list
      c.in_ok-add_policy.ensures;
  version = ap (λ n. n + 1) c.bases.invariant.version;
}

pub returns : goal.returns
returns c =
    names_end c.args.bases.now c.bases.base-index c.bases.version c.bases.list _
    (omega (arith, c.bases-test.false)) c.bases.invariant.list
