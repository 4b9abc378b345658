use Rattle.relabel_core.specs.Stored.{digests_of}
use Rattle.relabel_core.specs.Walked.{walk_of}
use Rattle.relabel_runs.proofs.RunLemmas.{kept_if_ok}
use Rattle.threaded_relabelling.proofs.next.next_walk_shared.Goals as goal

pub returns-clause-labels : goal.returns-clause-labels
returns-clause-labels g c =
    kept_if_ok c.args.input.now.tree.now (digests_of c.args.input.now.stored.now)
    (record {
      rules = c.args.input.now.rules.now;
      choice = c.args.choice.now;
      options = c.args.input.now.options;
    })
    (walk_of c.args.input.now) c.requires.chosen c.walk_shared.result c.walk_shared.ensures
