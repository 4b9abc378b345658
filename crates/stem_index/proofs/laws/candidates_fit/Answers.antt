use Rattle.stem_index.proofs.FitLaws.{candidates_are}
use Rattle.stem_index.proofs.laws.candidates_fit.Goals as goal

pub returns : goal.returns
returns c = candidates_are
