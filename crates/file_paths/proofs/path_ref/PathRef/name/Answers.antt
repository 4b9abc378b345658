use Rattle.std.proofs.Common.{◌<◌, length, arith}
use Rattle.std.proofs.lemmas.List.{take_rest}
use Rattle.file_paths.specs.Path.{path_names}
use Rattle.file_paths.proofs.PathLemmas.{names_behind_first}
use Rattle.file_paths.proofs.PathMoves.{name_at}
use Rattle.file_paths.proofs.path_ref.PathRef.name.Goals as goal

pub piece_at-requires : goal.piece_at-requires
piece_at-requires c =
    let path = c.args.self.now in
    let some : 0 < length (path_names path.text.now) = omega (arith, c.requires) in
    rw (take_rest) (rw (names_behind_first path.text.now path.normal some) c.requires)

pub returns : goal.returns
returns c =
    let path = c.args.self.now in
    let some : 0 < length (path_names path.text.now) = omega (arith, c.requires) in
    let found = rw (take_rest, names_behind_first path.text.now path.normal some) at
    c.piece_at.ensures in
    record {
      value = found;
      named = name_at (path_names path.text.now) c.args.i
          c.piece_at.result.now path.normal.1 found;
    }
