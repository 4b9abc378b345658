use Rattle.std.proofs.Common.{◌≡◌, ◌∙◌, sym, subst, ◌<◌, IfSome}
use Rattle.relabel_core.specs.Answer.{walk_in}
use Rattle.relabel_core.specs.Walk.{walk_count, winner}
use Rattle.relabel_core.proofs.NotedLemmas.{winner_within}
use Rattle.relabel_core.proofs.walked.Walked.winner_in.Goals as goal

is_winner : (c : goal.After-winner_at) → c.winner_at.result ≡ winner (walk_in c.args.self.now)
    c.args.g
is_winner c = c.winner_at.ensures ∙ c.args.self.now.found.winners_are c.args.g c.requires

pub returns-clause-value : goal.returns-clause-value
returns-clause-value c = is_winner c

pub returns-clause-within : goal.returns-clause-within
returns-clause-within c =
    subst (λ found. IfSome found (λ k. k < walk_count (walk_in c.args.self.now)))
    (sym (is_winner c)) (winner_within (walk_in c.args.self.now) _)
