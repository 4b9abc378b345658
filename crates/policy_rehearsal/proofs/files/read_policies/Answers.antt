use Rattle.std.proofs.Common.{subst, arith}
use Rattle.std.specs.Prelude.{Ok}
use Rattle.run_input.specs.Files.{Reads}
use Rattle.policy_rehearsal.specs.Files.{policies_below}
use Rattle.policy_rehearsal.proofs.FileLemmas.{none_read, one_forgotten, one_read, one_refused}
use Rattle.policy_rehearsal.proofs.files.read_policies.Goals as goal

pub versions-init : goal.versions-init
versions-init g c = none_read g.S.Store.files g.S.Store.calls g.S.Store.read_faults
    g.S.Store.write_faults c.args.list.now c.args.store.now _ c.new-policies.ensures

pub versions-preserved : goal.versions-preserved
versions-preserved g c =
    one_read g.S.Store.files g.S.Store.calls g.S.Store.read_faults g.S.Store.write_faults
    c.args.list.now c.versions.version _ _ _ _ _ _
    c.in_ok-push.ensures.ok c.versions.invariant c.in_ok-policy.ensures

pub returns-in_err-policy : goal.returns-in_err-policy
returns-in_err-policy g c =
    one_refused g.S.Store.files g.S.Store.calls g.S.Store.read_faults g.S.Store.write_faults
    c.args.list.now c.versions.version c.args.count _ _ _ _ _ _
    (omega (arith, c.versions-test.true)) c.from_residual.ensures.1 c.versions.invariant
    c.in_err-policy.ensures

pub returns-in_err-push : goal.returns-in_err-push
returns-in_err-push g c =
    one_forgotten g.S.Store.files g.S.Store.calls g.S.Store.read_faults g.S.Store.write_faults
    c.args.list.now c.versions.version c.args.count _ _ _ _ _ _
    (omega (arith, c.versions-test.true)) c.from_residual-in_err-push.ensures.1 c.versions.invariant
    c.in_ok-policy.ensures

pub returns : goal.returns
returns g c =
    subst (λ n. Reads g.S.Store.files g.S.Store.calls g.S.Store.read_faults g.S.Store.write_faults
    (policies_below c.args.list.now n) c.args.store.now c.versions.store
    (Ok c.versions.policies)) {x = c.versions.version} {y = c.args.count}
    (omega (arith, c.versions-test.false)) c.versions.invariant
