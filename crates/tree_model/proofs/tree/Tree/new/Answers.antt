use Rattle.tree_model.proofs.FormatLemmas.{within_format}
use Rattle.tree_model.proofs.tree.Tree.new.Goals as goal

pub returns-clause-of_format : goal.returns-clause-of_format
returns-clause-of_format c = λ format of_format. within_format format c.args.records
    c.in_ok-sorted.sorted (λ r h. (c.in_ok-sorted.ensures.same r).0 h) of_format
