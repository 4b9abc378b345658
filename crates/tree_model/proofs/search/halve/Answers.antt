use Rattle.std.proofs.Common.{sym, arith}
use Rattle.file_paths.specs.PathRef.{path_of}
use Rattle.tree_model.proofs.FindLemmas.{between_above, between_below}
use Rattle.tree_model.proofs.search.halve.Goals as goal

pub returns-then-is_before-clause-between : goal.returns-then-is_before-clause-between
returns-then-is_before-clause-between c =
    between_above c.args.records.now (path_of c.args.path.now) c.requires.by_path c.args.low
    c.args.high c.requires.between _
    (omega arith) (omega (arith, c.requires.some)) (sym c.if-is_before.ensures)

pub returns-else-is_before-clause-between : goal.returns-else-is_before-clause-between
returns-else-is_before-clause-between c =
    between_below c.args.records.now (path_of c.args.path.now) c.requires.by_path c.args.low
    c.args.high c.requires.between _
    (omega arith) (omega (arith, c.requires.some)) (sym c.if-is_before.ensures)
