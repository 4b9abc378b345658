use Rattle.file_paths.proofs.PathTexts.{same_normal}
use Rattle.file_paths.proofs.path_key.PathKeyPartialEq.eq.Goals as goal

pub returns : goal.returns
returns c =
    rw (← c.self.view_is, ← c.other.view_is)
    (same_normal c.self.inside.text.now c.other.inside.text.now _ c.self.invariant.normal
    c.other.invariant.normal c.eq.ensures)
