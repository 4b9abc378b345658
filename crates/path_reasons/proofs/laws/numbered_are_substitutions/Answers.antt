use Rattle.path_reasons.proofs.LawLemmas.{lines_are_subs}
use Rattle.path_reasons.proofs.laws.numbered_are_substitutions.Goals as goal

pub returns : goal.returns
returns c = lines_are_subs c.args._bytes.now
