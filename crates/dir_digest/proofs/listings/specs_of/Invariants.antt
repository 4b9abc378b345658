use Rattle.std.proofs.Common.{◌≡◌, drop, map, take}
use Rattle.std.specs.List.{AllByRecursion}
use Rattle.dir_digest.specs.Spelled.{spec_bytes}
use Rattle.dir_digest.specs.Basis.{IsReadSpec}
use Rattle.dir_digest.proofs.listings.specs_of.Given as goal

abbrev pub invariant-specs : goal.invariant-specs
invariant-specs l =
    (l.specs ≡ map spec_bytes (take l.i l.rules))
    × (AllByRecursion IsReadSpec (drop l.i l.rules) → AllByRecursion IsReadSpec l.rules)
