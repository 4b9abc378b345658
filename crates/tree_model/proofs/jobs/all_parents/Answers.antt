use Rattle.std.proofs.Common.{◌<◌, sym, subst, length, get_or}
use Rattle.tree_model.proofs.NextLemmas.{next_known}
use Rattle.tree_model.proofs.jobs.all_parents.Goals as goal

pub home_of-requires-clause-known : goal.home_of-requires-clause-known
home_of-requires-clause-known c =
    let i = c.directories.d-index in
    subst (λ xs. get_or xs i 0 < length c.args.sorted.now) (sym c.requires.all)
    (next_known c.args.sorted.now i
    (subst (λ xs. i < length xs) c.requires.all c.directories-test.true))
