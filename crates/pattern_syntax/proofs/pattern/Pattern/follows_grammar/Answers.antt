use Rattle.pattern_syntax.specs.Tree.{Tree}
use Rattle.pattern_syntax.proofs.FaultLemmas.{reads_as_grammar}
use Rattle.pattern_syntax.proofs.pattern.Pattern.follows_grammar.Goals as goal

pub returns-clause-read : goal.returns-clause-read
returns-clause-read c = λ (tree : Tree). reads_as_grammar c.args._bytes.now tree
