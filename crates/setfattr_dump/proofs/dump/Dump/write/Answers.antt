use Rattle.setfattr_dump.proofs.WrittenLines.{written_back}
use Rattle.setfattr_dump.proofs.dump.Dump.write.Goals as goal

pub returns-clause-reads_back : goal.returns-clause-reads_back
returns-clause-reads_back c =
    written_back c.write_sections.result c.as_slice.result.now c.args.self.now.sections
    c.as_slice.ensures c.requires c.write_sections.ensures.text c.write_sections.ensures.reads
