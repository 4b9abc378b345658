use Rattle.file_paths.proofs.PathTexts.{same_normal}
use Rattle.file_paths.proofs.path.NormPathPartialEq.eq.Goals as goal

pub returns : goal.returns
returns c =
    rw (← c.self.view_is, ← c.other.view_is)
    (same_normal c.self.inside.text.items c.other.inside.text.items _ c.self.invariant
    c.other.invariant c.eq.ensures)
