use Rattle.std.proofs.Common.{subst}
use Rattle.pattern_match.proofs.Standing.{Shows}
use Rattle.pattern_match.specs.Settled.{StatesStay}
use Rattle.spec_match.specs.Alive.{alive_at}
use Rattle.spec_match.specs.ListsSeen.{list_seen}
use Rattle.spec_match.proofs.ScratchLemmas.{marks_fit}
use Rattle.spec_match.proofs.stepping.member_stays.Goals as goal

pub load-requires-clause-width : goal.load-requires-clause-width
load-requires-clause-width c =
    marks_fit c.args.rule.now.spec.pattern
    (alive_at (list_seen c.args.list.now) c.args.k).states
    c.args.states.now.room
    c.requires.kept c.requires.room

pub returns-clause-exact : goal.returns-clause-exact
returns-clause-exact c =
    subst (λ known. Shows c.stays.result (StatesStay c.args.rule.now.spec.pattern known))
    c.load.ensures.known c.stays.ensures.exact
