use Rattle.std.proofs.Common.{refl}
use Rattle.file_paths.proofs.PathTexts.{cmp_normal}
use Rattle.file_paths.proofs.path_ref.PathRef.compare.Goals as goal

pub returns : goal.returns
returns c = cmp_normal c.args.self.now.text.now c.args.other.now.text.now _ _ _
    c.args.self.now.normal c.args.other.now.normal refl refl c.cmp_texts.ensures
