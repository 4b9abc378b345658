use Rattle.std.proofs.Common.{◌∙◌, sym}
use Rattle.tree_model.proofs.HeldLemmas.{none_placed, some_left, some_placed}
use Rattle.tree_model.proofs.job_entries.bounds_of.Goals as goal

pub returns-in-Some-clause-placed : goal.returns-in-Some-clause-placed
returns-in-Some-clause-placed c =
    some_placed c.args.tree.now c.rises.ensures c.args.job c.in-Some.d c.extent-end.result
    c.requires (sym c.job_directory.ensures.value ∙ c.in-Some.is) c.extent-end.ensures.value

pub returns-in-Some-clause-whole : goal.returns-in-Some-clause-whole
returns-in-Some-clause-whole c = some_left c.args.tree.now c.rises.ensures c.args.job c.in-Some.d
    (sym c.job_directory.ensures.value ∙ c.in-Some.is)

pub returns-in-None-clause-placed : goal.returns-in-None-clause-placed
returns-in-None-clause-placed c = none_placed c.args.tree.now c.rises.ensures c.args.job
    c.len.result c.requires (sym c.job_directory.ensures.value ∙ c.in-None.is) c.len.ensures
