use Rattle.std.proofs.Common.{◌∙◌, ap, sym, ◌++◌, ◌∷◌, [], take}
use Rattle.std.proofs.lemmas.List.{take_all, take_more}
use Rattle.relabel_core.proofs.StoredLemmas.{more_from, those_from}
use Rattle.relabel_core.proofs.stored.keep_sections.Goals as goal

pub sections-preserved : goal.sections-preserved
sections-preserved c =
    more_from c.args.stored.now c.sections.stored c.keep_section.new.stored c.args.tree.now
    (take c.sections.section-index c.args.sections.now) _ c.section-item.result
    c.sections.invariant c.in_ok-keep_section.ensures
    (take_more c.args.sections.now c.sections.section-index c.section-item.result
    c.sections-test.true ∙ ap (λ s. take c.sections.section-index c.args.sections.now ++ s ∷ [])
    (sym c.section-item.is))

pub returns : goal.returns
returns c = those_from c.args.stored.now c.sections.stored c.args.tree.now _ _ c.sections.invariant
    (take_all c.sections.section-index c.args.sections.now c.sections-test.false)
