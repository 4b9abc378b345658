use Rattle.policy_files.proofs.UnmadeLemmas.{refused_alike, unmade}
use Rattle.policy_files.proofs.reading.read_specifications.Goals as goal

pub returns-in_err-specs : goal.returns-in_err-specs
returns-in_err-specs g c =
    refused_alike _ _ _ _ _ _ _ _ _ c.from_residual.ensures.1 c.in_err-specs.ensures.read

pub returns-in_err-new : goal.returns-in_err-new
returns-in_err-new g c =
    unmade _ _ _ _ _ _ _ _ _ c.from_residual-in_err-new.ensures.1 c.in_ok-specs.ensures.read
