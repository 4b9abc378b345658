use Rattle.std.proofs.Common.{refl}
use Rattle.file_paths.proofs.PathTexts.{below_normal}
use Rattle.file_paths.proofs.path_ref.PathRef.is_at_or_below.Goals as goal

pub returns : goal.returns
returns c = below_normal c.args.self.now.text.now c.args.top.now.text.now _ _ _
    c.args.self.now.normal c.args.top.now.normal refl refl c.is_text_at_or_below.ensures
