use Rattle.std.proofs.Common.{take}
use Rattle.relabel_core.specs.Stored.{KeepsAmong}
use Rattle.relabel_core.proofs.stored.keep_attrs.Given as goal

-- the digests among the attributes so far are stored
abbrev pub invariant-attrs : goal.invariant-attrs
invariant-attrs l = KeepsAmong l.initial.stored l.stored l.d (take l.attr-index l.attrs)
