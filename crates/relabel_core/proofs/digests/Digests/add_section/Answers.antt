use Rattle.std.proofs.Common.{◌∙◌, ap, ◌++◌}
use Rattle.relabel_core.specs.Changes.{optional_section, change_at}
use Rattle.relabel_core.specs.Digests.{walk_before}
use Rattle.relabel_core.specs.Walk.{path_at}
use Rattle.relabel_core.proofs.ChangeLemmas.{section_shown}
use Rattle.relabel_core.proofs.digests.Digests.add_section.Goals as goal

pub returns : goal.returns
returns c =
    c.in_ok-add_section_of.ensures
    ∙ ap (λ section. c.args.to.now ++ optional_section section)
    (section_shown (walk_before c.args.self.now) c.args.e _ _ _
    (c.path.ensures ∙ ap (λ w. path_at w c.args.e) c.walked-walked.ensures)
    (c.change_at.ensures ∙ ap (λ w. change_at w c.args.e) c.walked-walked.ensures)
    c.change_at-2.ensures)
