use Rattle.label_audit.proofs.FoundLemmas.{unopened}
use Rattle.label_audit.proofs.found.read_run.Goals as goal

pub returns-in_err-list : goal.returns-in_err-list
returns-in_err-list g c = unopened _ _ _ _ _ _ _ c.from_residual.ensures.1
