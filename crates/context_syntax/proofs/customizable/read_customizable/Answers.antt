use Rattle.context_syntax.proofs.TypeLines.{read_words}
use Rattle.context_syntax.proofs.customizable.read_customizable.Goals as goal

pub of-requires : goal.of-requires
of-requires c = read_words c.args.bytes.now _ c.in_ok-names.ensures
