use Rattle.std.proofs.Common.{◌∙◌, ap, ◌++◌}
use Rattle.std.specs.List.{concat}
use Rattle.label_base.proofs.PieceLemmas.{concat_more}
use Rattle.label_base.proofs.pieced_text.PiecedText.push.Goals as goal

pub returns-clause-ok : goal.returns-clause-ok
returns-clause-ok c =
    ap concat c.in_ok-push.ensures.items ∙ concat_more c.self.inside.pieces.items c.args.piece
    ∙ ap (λ t. t ++ c.args.piece) c.self.view_is
