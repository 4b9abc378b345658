use Rattle.std.proofs.Common.{rules, arith}
use Rattle.inode_claims.proofs.Keeps.{claims}
use Rattle.inode_claims.proofs.claims.Claims.claim.Goals as goal

pub fetch_min-found-requires : goal.fetch_min-found-requires
fetch_min-found-requires c = (
  search rules,
  search rules,
  claims _ _ _ _ _ _ (omega arith) (search rules) (search rules)
      (search rules),
)
