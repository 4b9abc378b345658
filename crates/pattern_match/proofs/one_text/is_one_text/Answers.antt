use Rattle.std.proofs.Common.{◌∙◌, sym}
use Rattle.pattern_match.proofs.OneText.{nothing_behind, start_alone}
use Rattle.pattern_match.proofs.one_text.is_one_text.Goals as goal

pub returns-clause-rest : goal.returns-clause-rest
returns-clause-rest c = λ h.
    nothing_behind c.args.pattern.now.tree (sym c.is_start_alone.ensures ∙ h)

pub returns-clause-text : goal.returns-clause-text
returns-clause-text c = λ h.
    start_alone c.args.pattern.now.tree
    (nothing_behind c.args.pattern.now.tree (sym c.is_start_alone.ensures ∙ h))
