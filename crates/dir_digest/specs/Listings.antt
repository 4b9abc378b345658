-- What contracts see of what makes listings.
use Rattle.dir_digest.specs.Basis.{Basis, basis_of}
use Rattle.dir_digest.specs.declared.listings.Listings.{Listings}

abbrev pub basis_in : Listings → Basis
basis_in l = basis_of l.format l.mode l.types.now l.subs.now l.rules.now
