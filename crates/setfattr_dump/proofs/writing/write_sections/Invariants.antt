use Rattle.std.proofs.Common.{◌≡◌, ◌++◌, drop}
use Rattle.std.specs.List.{AllByRecursion}
use Rattle.setfattr_dump.specs.ReadsBack.{SectionReads}
use Rattle.setfattr_dump.specs.Texts.{dump_text}
use Rattle.setfattr_dump.proofs.writing.write_sections.Given as goal

abbrev pub invariant-sections : goal.invariant-sections
invariant-sections l = record {
  text : l.text ++ dump_text (drop l.section-index l.sections) ≡ dump_text l.sections;
  reads : AllByRecursion SectionReads (drop l.section-index l.sections)
      → AllByRecursion SectionReads l.sections;
}
