use Rattle.std.proofs.Common.{◌≡◌, ◌∙◌, ap, map, arith}
use Rattle.tree_model.specs.Firsts.{firsts_of}
use Rattle.tree_model.specs.Links.{inode_of}
use Rattle.tree_model.proofs.KeptGroups.{are_groups, sized}
use Rattle.tree_model.proofs.groups.number_groups.Goals as goal

pub returns-clause-sized : goal.returns-clause-sized
returns-clause-sized c =
    let firsts : c.as_slice.result.now ≡ firsts_of (map inode_of c.args.sorted.now) =
    c.as_slice.ensures.value ∙ c.in_ok-firsts.ensures ∙ ap firsts_of c.new.ensures in
    sized c.args.sorted.now c.in_ok-group_of.group_of.items
    (c.in_ok-group_of.ensures.groups (map inode_of c.args.sorted.now) firsts)

pub returns-clause-inside : goal.returns-clause-inside
returns-clause-inside c =
    let firsts : c.as_slice.result.now ≡ firsts_of (map inode_of c.args.sorted.now) =
    c.as_slice.ensures.value ∙ c.in_ok-firsts.ensures ∙ ap firsts_of c.new.ensures in
    are_groups c.args.sorted.now c.in_ok-group_of.group_of.items c.in_ok-group_of.count
    (omega (arith, c.len-count.ensures))
    (c.in_ok-group_of.ensures.groups (map inode_of c.args.sorted.now) firsts)
    (c.in_ok-group_of.ensures.count (map inode_of c.args.sorted.now) firsts)
