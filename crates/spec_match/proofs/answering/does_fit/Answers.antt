use Rattle.spec_match.specs.Alive.{alive_at}
use Rattle.spec_match.specs.ListsSeen.{list_seen}
use Rattle.spec_match.proofs.ScratchLemmas.{marks_fit}
use Rattle.spec_match.proofs.answering.does_fit.Goals as goal

pub load-requires-clause-width : goal.load-requires-clause-width
load-requires-clause-width c =
    marks_fit c.args.rule.now.spec.pattern
    (alive_at (list_seen c.args.list.now) c.args.k).states
    c.args.states.now.room
    c.requires.kept c.requires.room
