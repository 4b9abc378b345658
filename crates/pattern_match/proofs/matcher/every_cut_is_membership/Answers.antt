use Rattle.pattern_match.proofs.Holding.{holds_shows}
use Rattle.pattern_match.proofs.matcher.every_cut_is_membership.Goals as goal

pub returns : goal.returns
returns c = holds_shows
