use Rattle.file_paths.proofs.PathTexts.{same_normal}
use Rattle.file_paths.proofs.path_ref.PathRef.is_same.Goals as goal

pub returns : goal.returns
returns c = same_normal c.args.self.now.text.now c.args.other.now.text.now _ c.args.self.now.normal
    c.args.other.now.normal c.eq.ensures
