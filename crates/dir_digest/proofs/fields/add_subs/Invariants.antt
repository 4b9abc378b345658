use Rattle.std.proofs.Common.{◌≡◌, ◌++◌, drop}
use Rattle.std.specs.List.{AllByRecursion, flat_map}
use Rattle.dir_digest.specs.ListingBytes.{IsNamesSub, field_bytes, sub_fields}
use Rattle.dir_digest.proofs.fields.add_subs.Given as goal

abbrev pub invariant-subs : goal.invariant-subs
invariant-subs l =
    (l.to ++ field_bytes (flat_map sub_fields (drop l.sub-index l.subs)) ≡ l.initial.to
    ++ field_bytes (flat_map sub_fields l.fn.subs))
    × (AllByRecursion IsNamesSub (drop l.sub-index l.subs) → AllByRecursion IsNamesSub l.subs)
