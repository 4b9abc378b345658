use Rattle.std.proofs.Common.{subst, sym, ◌<◌, IfSome}
use Rattle.tree_model.specs.Groups.{group_of}
use Rattle.relabel_core.specs.Walk.{walk_count}
use Rattle.relabel_core.specs.Walked.{walk_of}
use Rattle.relabel_core.proofs.NotedLemmas.{winner_within}
use Rattle.relabel_core.proofs.known.Known.winner.Goals as goal

pub returns-clause-within : goal.returns-clause-within
returns-clause-within c =
    let known = c.args.self.now in
    let w = walk_of known.input in
    subst (λ found. IfSome found (λ k. k < walk_count w)) (sym known.known.winner_is)
    (winner_within w (group_of w.entries known.index))
