use Rattle.std.proofs.Common.{arith, ap, length}
use Rattle.tree_model.proofs.StartLemmas.{few_below}
use Rattle.tree_model.proofs.groups.push_group.Goals as goal

pub overflow_cast-len : goal.overflow_cast-len
overflow_cast-len c =
    omega (
      arith,
      few_below c.args.groups.now c.args.group,
      ap length c.requires.names,
      c.len.ensures,
    )
