use Rattle.std.proofs.Common.{◌∙◌, ap, subst, sym, ◌++◌}
use Rattle.file_paths.specs.Path.{path_names}
use Rattle.file_paths.specs.PathRef.{path_of}
use Rattle.file_paths.specs.PathText.{IsNormal}
use Rattle.file_paths.proofs.PathMoves.{joined_normal}
use Rattle.file_paths.proofs.path.NormPath.replaced.Goals as goal

pub invariant_of-result : goal.invariant_of-result
invariant_of-result c =
    subst IsNormal (sym c.in_ok-joined.ensures)
    (joined_normal _ _ c.kept_text.ensures.normal c.kept_text-2.ensures.normal).1

pub returns : goal.returns
returns c =
    ap path_names c.in_ok-joined.ensures
    ∙ (joined_normal _ _ c.kept_text.ensures.normal c.kept_text-2.ensures.normal).0
    ∙ ap (λ names. names ++ path_names c.kept_text-2.result.now) c.kept_text.ensures.names
    ∙ ap (λ names. path_of c.args.target.now ++ names) (c.kept_text-2.ensures.names
    ∙ c.behind-behind.ensures)
