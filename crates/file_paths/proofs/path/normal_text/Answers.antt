use Rattle.std.proofs.Common.{◌≡◌, ◌∙◌, sym, ap, ◌++◌, append-nil}
use Rattle.std.specs.Prelude.{filter}
use Rattle.std.specs.Option.{option_copied}
use Rattle.label_base.specs.Cut.{pieces_left}
use Rattle.label_base.specs.Text.{is_nonempty}
use Rattle.file_paths.specs.Path.{path_names, with_slashes, is_slash}
use Rattle.file_paths.proofs.PathLemmas.{names_ok, names_back, normal_of_names}
use Rattle.file_paths.proofs.path.normal_text.Goals as goal

whole_text : (c : goal.In_default) → c.loop-left.text.items ≡ with_slashes
    (path_names c.args.bytes.now)
whole_text c =
    sym (append-nil c.loop-left.text.items)
    ∙ ap (λ o. c.loop-left.text.items ++ with_slashes
    (filter is_nonempty (pieces_left is_slash (option_copied o)))) (sym c.in_default.is)
    ∙ c.loop-left.invariant

pub returns-clause-names : goal.returns-clause-names
returns-clause-names c = ap path_names (whole_text c) ∙ names_back (path_names c.args.bytes.now)
    (names_ok c.args.bytes.now c.requires)

pub returns-clause-normal : goal.returns-clause-normal
returns-clause-normal c =
    rw (whole_text c)
    (normal_of_names (path_names c.args.bytes.now) (names_ok c.args.bytes.now c.requires))
