use Rattle.file_paths.proofs.PathTexts.{cmp_normal}
use Rattle.file_paths.proofs.path.NormPathOrd.cmp.Goals as goal

pub returns : goal.returns
returns c =
    rw (← c.self.view_is, ← c.other.view_is)
    (cmp_normal c.self.inside.text.items c.other.inside.text.items _ _ _ c.self.invariant
    c.other.invariant c.as_slice.ensures.value c.as_slice-2.ensures.value c.cmp_texts.ensures)
