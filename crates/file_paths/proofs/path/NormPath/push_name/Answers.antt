use Rattle.std.proofs.Common.{◌∙◌, ap, ◌++◌, ◌∷◌, []}
use Rattle.file_paths.specs.Path.{path_names}
use Rattle.file_paths.proofs.PathLemmas.{names_pushed, normal_pushed}
use Rattle.file_paths.proofs.path.NormPath.push_name.Goals as goal

pub invariant_of-self-2 : goal.invariant_of-self-2
invariant_of-self-2 c =
    rw c.in_ok-push_part.ensures.ok
    (normal_pushed c.self.inside.text.items c.args.name.now c.self.invariant c.requires)

pub returns-clause-ok : goal.returns-clause-ok
returns-clause-ok c =
    ap path_names c.in_ok-push_part.ensures.ok
    ∙ names_pushed c.self.inside.text.items c.args.name.now c.requires
    ∙ ap (λ names. names ++ c.args.name.now ∷ []) c.self.view_is
