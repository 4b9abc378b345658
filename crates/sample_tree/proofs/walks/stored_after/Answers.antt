use Rattle.relabel_core.specs.Answer.{walk_in}
use Rattle.sample_tree.proofs.WalkLemmas.{each_digest, only_directories}
use Rattle.sample_tree.proofs.walks.stored_after.Goals as goal

pub of-requires-clause-each_entry : goal.of-requires-clause-each_entry
of-requires-clause-each_entry c =
    each_digest (walk_in c.args.first.now) c.args.next.now c.in_ok-digests.digests c.requires.same
    c.in_ok-digests.ensures.digests

pub of-requires-clause-directories : goal.of-requires-clause-directories
of-requires-clause-directories c =
    only_directories (walk_in c.args.first.now) c.args.next.now c.requires.stored c.requires.same
    c.in_ok-digests.digests c.in_ok-digests.ensures.digests
