use Rattle.dir_digest.proofs.AlikeLemmas.{bytes_alike}
use Rattle.dir_digest.proofs.laws.equal_listings_decide_alike.Goals as goal

pub returns : goal.returns
returns c = bytes_alike
