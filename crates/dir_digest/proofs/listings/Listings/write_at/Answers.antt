use Rattle.std.proofs.Common.{rules}
use Rattle.file_paths.specs.PathRef.{path_of}
use Rattle.dir_digest.specs.Listings.{basis_in}
use Rattle.dir_digest.proofs.SpelledLemmas.{listing_pieces}
use Rattle.dir_digest.proofs.listings.Listings.write_at.Goals as goal

pub returns-clause-value : goal.returns-clause-value
returns-clause-value c =
    let t = basis_in c.args.self.now in
    let pieces = listing_pieces t (path_of c.args.dir.now) (path_of c.args.path.now)
    c.args.self.now.shared c.requires.path c.args.self.now.spelled.shared_are in
    search (rules, pieces)
