use Rattle.worker_tests.proofs.test_worlds.tree_of.Goals as goal

pub returns : goal.returns
returns c = c.in_ok-new.ensures.of_format c.args.format c.in_ok-read.ensures.of_format
