use Rattle.label_audit.proofs.AheadLemmas.{none_ahead}
use Rattle.label_audit.proofs.ahead.Ahead.new.Goals as goal

pub returns : goal.returns
returns c = λ w. none_ahead w
