use Rattle.std.proofs.Common.{◌≡◌, ◌++◌, drop}
use Rattle.std.specs.List.{flat_map}
use Rattle.dir_digest.specs.ListingBytes.{field_bytes, name_field}
use Rattle.dir_digest.proofs.fields.add_names.Given as goal

abbrev pub invariant-names : goal.invariant-names
invariant-names l = l.to ++ field_bytes (flat_map name_field (drop l.name-index l.names))
    ≡ l.initial.to ++ field_bytes (flat_map name_field l.fn.names)
