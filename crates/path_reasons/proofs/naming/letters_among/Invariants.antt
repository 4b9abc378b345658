use Rattle.std.proofs.Common.{◌≡◌, ◌++◌, drop}
use Rattle.std.specs.List.{flat_map}
use Rattle.path_reasons.specs.Kinds.{letter_if_alike}
use Rattle.path_reasons.specs.Members.{specs_seen}
use Rattle.path_reasons.proofs.naming.letters_among.Given as goal

-- the parts so far, and those of what is left
abbrev pub invariant-kinds : goal.invariant-kinds
invariant-kinds l =
    l.letters
    ++ flat_map (letter_if_alike (specs_seen l.members) l.kind) (drop l.other-index l.kinds)
    ≡ flat_map (letter_if_alike (specs_seen l.members) l.kind) l.kinds
