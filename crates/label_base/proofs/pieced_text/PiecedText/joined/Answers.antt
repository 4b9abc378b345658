use Rattle.std.proofs.Common.{◌∙◌, ap, sym, ◌++◌, take}
use Rattle.std.specs.List.{concat}
use Rattle.label_base.proofs.PieceLemmas.{concat_taken}
use Rattle.label_base.proofs.pieced_text.PiecedText.joined.Goals as goal

pub pieces-preserved : goal.pieces-preserved
pieces-preserved c =
    let pieces = c.as_slice-pieces.result.now in
    let i = c.pieces.piece-index in
    c.in_ok-push.ensures.ok ∙ ap (λ t. t ++ c.as_slice.result.now) c.pieces.invariant
    ∙ ap (λ t. concat (take i pieces) ++ t) (c.as_slice.ensures ∙ c.piece-item.is)
    ∙ sym (concat_taken pieces i c.piece-item.result c.pieces-test.true)
