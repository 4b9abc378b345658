use Rattle.std.proofs.Common.{rules}
use Rattle.inode_claims.proofs.Keeps.{splits}
use Rattle.inode_claims.proofs.claims.Claims.another.Goals as goal

pub split_seat-seat-requires : goal.split_seat-seat-requires
split_seat-seat-requires c = (search rules, search rules, splits _ _ _ (search rules))
