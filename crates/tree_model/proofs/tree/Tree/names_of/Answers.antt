use Rattle.std.proofs.Common.{◌∙◌}
use Rattle.tree_model.proofs.KeptGroups.{IsPart, names_some, part_is}
use Rattle.tree_model.proofs.tree.Tree.names_of.Goals as goal

part : (c : goal.After-as_slice-2) → IsPart c.args.self.now c.as_slice.result.now
    c.as_slice-2.result.now c.args.g
part c = part_is c.self.inside.sorted c.args.self.now _ _ _ c.as_slice.result.now
    c.as_slice-2.result.now c.self.view_is c.as_slice.ensures.value c.as_slice-2.ensures.value
    c.self.invariant.groups_are.lists c.args.g c.requires

pub part_at-requires : goal.part_at-requires
part_at-requires c = let p = part c in
    record { known = p.known; order = p.order; within = p.within }

pub returns-clause-value : goal.returns-clause-value
returns-clause-value c =
    let p = part_is c.self.inside.sorted c.args.self.now _ _ _ c.as_slice.result.now
    c.as_slice-2.result.now c.self.view_is c.as_slice.ensures.value c.as_slice-2.ensures.value
    c.self.invariant.groups_are.lists c.args.g c.requires in
    c.part_at.ensures ∙ p.value

pub returns-clause-some : goal.returns-clause-some
returns-clause-some c =
    let p = part_is c.self.inside.sorted c.args.self.now _ _ _ c.as_slice.result.now
    c.as_slice-2.result.now c.self.view_is c.as_slice.ensures.value c.as_slice-2.ensures.value
    c.self.invariant.groups_are.lists c.args.g c.requires in
    names_some c.args.self.now c.args.g c.part_at.result.now c.requires
    (c.part_at.ensures ∙ p.value)
