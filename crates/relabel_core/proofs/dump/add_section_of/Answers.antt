use Rattle.std.proofs.Common.{◌∙◌, sym}
use Rattle.std.specs.Prelude.{option_map}
use Rattle.file_paths.specs.PathRef.{path_of}
use Rattle.context_syntax.specs.ContextRef.{context_lent}
use Rattle.relabel_core.proofs.DumpLemmas.{none_written, whole_written}
use Rattle.relabel_core.proofs.dump.add_section_of.Goals as goal

pub returns-then-not-does_change : goal.returns-then-not-does_change
returns-then-not-does_change c =
    let changes = c.args.changes.now in
    none_written (path_of changes.path.now) (option_map context_lent changes.label.now)
    changes.digest.now c.args.to.now
    (sym c.does_change.ensures ∙ c.if-not-does_change.true)

pub returns : goal.returns
returns c =
    let changes = c.args.changes.now in
    whole_written (path_of changes.path.now) (option_map context_lent changes.label.now)
    changes.digest.now c.args.to.now
    c.add_name.new.text c.add_label.new.to c.add_digest.new.to c.end_section.new.text
    (sym c.does_change.ensures ∙ c.if-not-does_change.false)
    c.in_ok-add_name.ensures c.in_ok-add_label.ensures c.in_ok-add_digest.ensures
    c.in_ok-end_section.ensures
