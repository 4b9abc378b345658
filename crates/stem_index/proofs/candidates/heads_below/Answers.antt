use Rattle.std.proofs.Common.{sym}
use Rattle.stem_index.proofs.StemLemmas.{below_none, below_own}
use Rattle.stem_index.proofs.candidates.heads_below.Goals as goal

pub returns-then-has_none : goal.returns-then-has_none
returns-then-has_none c = λ name bound heads found.
    below_none c.args.index.now name bound c.args.free c.args.own heads c.args.greatest found
    c.before-earlier.result (sym c.if-has_none.ensures) c.before-earlier.ensures

pub returns-else-has_none : goal.returns-else-has_none
returns-else-has_none c = λ name bound heads found.
    below_own c.args.index.now name bound c.args.free c.args.own heads c.args.greatest found
    c.before-earlier.result (sym c.if-has_none.ensures) c.before-earlier.ensures
