use Rattle.file_paths.proofs.PathTexts.{normal_reads_back}
use Rattle.file_paths.proofs.path_ref.PathRef.as_text.Goals as goal

pub returns-clause-read_back : goal.returns-clause-read_back
returns-clause-read_back c = normal_reads_back c.args.self.now.text.now _ c.args.self.now.normal
    c.text_or_slash.ensures
