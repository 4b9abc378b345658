use Rattle.std.proofs.Common.{◌∙◌, ap}
use Rattle.label_rules.specs.LookUp.{given_at}
use Rattle.relabel_core.specs.Walked.{walk_of}
use Rattle.relabel_core.proofs.NotedLemmas.{winning_gives}
use Rattle.relabel_core.proofs.known.Known.wanted_by_winner.Goals as goal

pub returns : goal.returns
returns c =
    let known = c.args.self.now in
    let w = walk_of known.input in
    c.given_at.ensures ∙ ap (λ found. given_at w.rules.rules found) known.known.winning_is
    ∙ winning_gives w known.winner
