use Rattle.std.proofs.Common.{◌∙◌, sym}
use Rattle.relabel_core.specs.Answer.{walk_in}
use Rattle.relabel_core.proofs.SweptLemmas.{none_of_file}
use Rattle.relabel_core.proofs.walked.Walked.renewed.Goals as goal

pub returns-then-not-is_directory : goal.returns-then-not-is_directory
returns-then-not-is_directory c =
    sym (none_of_file (walk_in c.args.self.now) c.args.d (sym c.is_directory.ensures
    ∙ c.if-not-is_directory.true))
