use Rattle.std.proofs.Common.{◌≡◌, ◌++◌, drop}
use Rattle.std.specs.List.{AllByRecursion}
use Rattle.setfattr_dump.specs.ReadsBack.{AttrReads}
use Rattle.setfattr_dump.specs.Texts.{attrs_text}
use Rattle.setfattr_dump.proofs.writing.add_attrs.Given as goal

abbrev pub invariant-attrs : goal.invariant-attrs
invariant-attrs l = record {
  text : l.text ++ attrs_text (drop l.attr-index l.attrs) ≡ l.fn.text ++ attrs_text l.attrs;
  reads : AllByRecursion AttrReads (drop l.attr-index l.attrs) → AllByRecursion AttrReads l.attrs;
}
