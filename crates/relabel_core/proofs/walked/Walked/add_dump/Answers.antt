use Rattle.std.proofs.Common.{◌∙◌, ap, ◌++◌}
use Rattle.relabel_core.specs.Answer.{walk_in}
use Rattle.relabel_core.specs.Changes.{optional_section, section_at}
use Rattle.relabel_core.proofs.DumpLemmas.{none_dumped, section_more}
use Rattle.relabel_core.proofs.walked.Walked.add_dump.Goals as goal

pub entries-init : goal.entries-init
entries-init c = none_dumped c.args.to.now

pub entries-preserved : goal.entries-preserved
entries-preserved c =
    section_more (walk_in c.args.self.now) c.entries.e c.args.to.now c.entries.to
    c.add_section.new.to c.entries.invariant
    (c.in_ok-add_section.ensures
    ∙ ap (λ w. c.entries.to ++ optional_section (section_at w c.entries.e))
    c.in_ok-digests.ensures)
