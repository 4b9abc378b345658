use Rattle.dir_digest.proofs.ReadLemmas.{read_listing}
use Rattle.dir_digest.proofs.laws.accepted_files_give_listings.Goals as goal

pub returns : goal.returns
returns c = read_listing
