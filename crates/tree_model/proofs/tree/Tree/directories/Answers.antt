use Rattle.std.proofs.Common.{arith}
use Rattle.tree_model.proofs.JobLaws.{directories_few}
use Rattle.tree_model.proofs.tree.Tree.directories.Goals as goal

pub overflow_cast-result : goal.overflow_cast-result
overflow_cast-result c =
    let few = directories_few c.self.inside.sorted c.self.inside.directories.items
    c.self.invariant.directories_are in
    omega (arith, few, c.len.ensures, c.len-count.ensures, c.len-count.type_inv)
