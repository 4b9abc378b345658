use Rattle.policy_files.proofs.UnmadeLemmas.{refused_alike, unmade}
use Rattle.path_lookups.proofs.tool.read_found.Goals as goal

pub returns-in_err-rules : goal.returns-in_err-rules
returns-in_err-rules g c =
    refused_alike _ _ _ _ _ _ _ _ _ c.from_residual.ensures.1 c.in_err-rules.ensures

pub returns-in_err-new : goal.returns-in_err-new
returns-in_err-new g c =
    unmade _ _ _ _ _ _ _ _ _ c.from_residual-in_err-new.ensures.1 c.in_ok-rules.ensures
