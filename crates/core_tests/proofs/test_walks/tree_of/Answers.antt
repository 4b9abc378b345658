use Rattle.core_tests.proofs.test_walks.tree_of.Goals as goal

pub returns : goal.returns
returns c = c.in_ok-new.ensures.of_format c.args.format c.in_ok-read.ensures.of_format
