use Rattle.pattern_match.proofs.Quotients.{below_shows}
use Rattle.pattern_match.proofs.matcher.quotients_show_what_is_below.Goals as goal

pub returns : goal.returns
returns c = below_shows
