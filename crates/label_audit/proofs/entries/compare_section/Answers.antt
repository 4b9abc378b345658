use Rattle.std.proofs.Common.{◌∙◌, ◌∷◌, ap, ap₂}
use Rattle.std.specs.Prelude.{option_map}
use Rattle.context_syntax.specs.ContextRef.{context_lent}
use Rattle.file_paths.specs.PathRef.{path_of}
use Rattle.run_faults.specs.declared.finding.Piece.TheVariants.{Entry}
use Rattle.relabel_core.specs.Changes.{change_at, optional_section}
use Rattle.relabel_core.specs.Walked.{walk_of}
use Rattle.relabel_core.proofs.ChangeLemmas.{section_shown}
use Rattle.label_audit.specs.Compared.{behind_of}
use Rattle.label_audit.specs.Pieces.{piece_placed}
use Rattle.label_audit.proofs.entries.compare_section.Goals as goal

pub returns-clause-dump : goal.returns-clause-dump
returns-clause-dump c =
    let e = c.args.found.now.at.entry in
    let path = path_of c.entry_path-path.result in
    let change = option_map context_lent c.change-change.result in
    let digest = c.in_ok-digest.digest in
    λ rest.
    c.compare_dump.ensures rest
    ∙ ap (λ t. behind_of c.args.audit.now.dump (piece_placed (Entry e) t ∷ rest))
    (c.as_slice.ensures ∙ c.in_ok-make_section.ensures ∙ ap optional_section
    (section_shown (walk_of c.args.input.now) e path change digest c.entry_path-path.ensures
    (c.change-change.ensures ∙ ap₂ (λ w k. change_at w k) c.requires.walk c.requires.index)
    c.in_ok-digest.ensures.found))
