use Rattle.std.proofs.Common.{◌≡◌, ◌++◌, drop}
use Rattle.std.specs.List.{flat_map}
use Rattle.path_reasons.specs.Blocks.{block_if_told, told_of}
use Rattle.path_reasons.proofs.blocks.add_each.Given as goal

-- the parts so far, and those of what is left
abbrev pub invariant-kinds : goal.invariant-kinds
invariant-kinds l =
    l.text ++ flat_map (block_if_told (told_of l.told)) (drop l.kind-index l.kinds)
    ≡ l.initial.text ++ flat_map (block_if_told (told_of l.told)) l.kinds
