use Rattle.label_audit.proofs.AgreementLemmas.{audit_tells_of_run}
use Rattle.label_audit.proofs.laws.audit_tells_of_run.Goals as goal

pub returns : goal.returns
returns c = audit_tells_of_run
