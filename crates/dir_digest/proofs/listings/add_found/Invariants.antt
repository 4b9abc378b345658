use Rattle.std.proofs.Common.{◌≡◌, ◌++◌, drop}
use Rattle.dir_digest.specs.Spelled.{texts_at}
use Rattle.dir_digest.proofs.listings.add_found.Given as goal

abbrev pub invariant-found : goal.invariant-found
invariant-found l = l.to ++ texts_at l.texts (drop l.i-index l.found) ≡ l.initial.to
    ++ texts_at l.texts l.fn.found
