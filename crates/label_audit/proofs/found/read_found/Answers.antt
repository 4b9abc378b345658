use Rattle.std.proofs.Common.{refl}
use Rattle.run_input.proofs.ReadsLemmas.{followed, refused, valued}
use Rattle.label_audit.specs.Found.{audit_found}
use Rattle.label_audit.proofs.found.read_found.Goals as goal

pub returns-in_err-run : goal.returns-in_err-run
unfolding audit_found
returns-in_err-run g c =
    refused _ _ _ _ _ _ _ _ _ _ c.from_residual.ensures.1 c.in_err-run.ensures

pub returns-in_err-report : goal.returns-in_err-report
unfolding audit_found
returns-in_err-report g c =
    followed _ _ _ _ _ _ _ _ _ _ _ c.in_ok-run.ensures
    (refused _ _ _ _ _ _ _ _ _ _ c.from_residual-in_err-report.ensures.1 c.in_err-report.ensures)

pub returns-in_err-dump : goal.returns-in_err-dump
unfolding audit_found
returns-in_err-dump g c =
    followed _ _ _ _ _ _ _ _ _ _ _ c.in_ok-run.ensures
    (followed _ _ _ _ _ _ _ _ _ _ _ c.in_ok-report.ensures
    (refused _ _ _ _ _ _ _ _ _ _ c.from_residual-in_err-dump.ensures.1 c.in_err-dump.ensures))

pub returns : goal.returns
unfolding audit_found
returns g c =
    followed _ _ _ _ _ _ _ _ _ _ _ c.in_ok-run.ensures
    (followed _ _ _ _ _ _ _ _ _ _ _ c.in_ok-report.ensures
    (valued _ _ _ _ _ _ _ _ _ _ c.in_ok-dump.ensures (λ fs. refl)))
