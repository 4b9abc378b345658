use Rattle.file_paths.specs.PathRef.{path_of}
use Rattle.home_contexts.proofs.EscapedPaths.{path_alone}
use Rattle.home_contexts.proofs.escape.escape_path.Goals as goal

pub returns-in_err-add_escaped-clause-alone : goal.returns-in_err-add_escaped-clause-alone
returns-in_err-add_escaped-clause-alone c = path_alone c.args.path.now (path_of c.path-path.result)
    c.path-path.ensures c.path-path.result.normal.1

pub returns-clause-alone : goal.returns-clause-alone
returns-clause-alone c = path_alone c.args.path.now (path_of c.path-path.result) c.path-path.ensures
    c.path-path.result.normal.1
