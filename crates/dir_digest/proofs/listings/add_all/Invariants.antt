use Rattle.std.proofs.Common.{◌≡◌, ◌++◌, drop}
use Rattle.std.specs.List.{flat_map}
use Rattle.dir_digest.specs.Spelled.{text_itself}
use Rattle.dir_digest.proofs.listings.add_all.Given as goal

abbrev pub invariant-texts : goal.invariant-texts
invariant-texts l = l.to ++ flat_map text_itself (drop l.text-index l.texts) ≡ l.initial.to
    ++ flat_map text_itself l.fn.texts
