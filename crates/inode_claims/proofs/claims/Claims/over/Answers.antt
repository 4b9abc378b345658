use Rattle.std.proofs.Common.{rules}
use Rattle.inode_claims.proofs.Keeps.{begins_full}
use Rattle.inode_claims.proofs.claims.Claims.over.Goals as goal

pub of_words-requires : goal.of_words-requires
of_words-requires c = begins_full _ _ (search rules) (search rules)
