use Rattle.file_paths.proofs.PathLengths.{text_of, whatever}
use Rattle.file_paths.proofs.path_text.add_path.Goals as goal

pub returns-clause-text : goal.returns-clause-text
returns-clause-text c =
    whatever _ _ (text_of c.args.bytes.now c.in_ok-path.path c.in_ok-path.ensures)
