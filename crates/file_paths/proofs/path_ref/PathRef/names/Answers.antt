use Rattle.std.proofs.Common.{◌∙◌}
use Rattle.file_paths.proofs.PathLemmas.{slashes_counted}
use Rattle.file_paths.proofs.path_ref.PathRef.names.Goals as goal

pub returns : goal.returns
returns c = c.count_slashes.ensures ∙ slashes_counted c.args.self.now.text.now
    c.args.self.now.normal
