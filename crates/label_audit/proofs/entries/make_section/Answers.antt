use Rattle.std.proofs.Common.{◌∙◌, ◌++◌, ap}
use Rattle.std.specs.Prelude.{option_map}
use Rattle.context_syntax.specs.ContextRef.{context_lent}
use Rattle.file_paths.specs.PathRef.{path_of}
use Rattle.relabel_core.specs.Changes.{optional_section, section_by}
use Rattle.label_audit.proofs.entries.make_section.Goals as goal

pub returns : goal.returns
returns c =
    let changes = c.args.changes.now in
    let section = section_by (path_of changes.path.now) (option_map context_lent changes.label.now)
    changes.digest.now in
    c.in_ok-add_section_of.ensures ∙ ap (λ t. t ++ optional_section section) c.clear.ensures
