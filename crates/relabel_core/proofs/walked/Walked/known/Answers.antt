use Rattle.std.proofs.Common.{◌∙◌}
use Rattle.relabel_core.proofs.walked.Walked.known.Goals as goal

pub new-requires-clause-known : goal.new-requires-clause-known
new-requires-clause-known c = record {
  inside = c.requires;
  skip_is = c.skip.ensures ∙ c.args.self.now.were_swept.skips_are c.args.e c.requires;
  decided_is = c.deciding.ensures;
  winner_is = c.winner-winner.ensures.value;
  winning_is = c.winning.ensures;
}
