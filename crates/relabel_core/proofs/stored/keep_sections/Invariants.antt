use Rattle.std.proofs.Common.{take}
use Rattle.relabel_core.specs.Stored.{KeepsFrom}
use Rattle.relabel_core.proofs.stored.keep_sections.Given as goal

-- the digests of the sections so far are stored
abbrev pub invariant-sections : goal.invariant-sections
invariant-sections l = KeepsFrom l.initial.stored l.stored l.tree (take l.section-index l.sections)
