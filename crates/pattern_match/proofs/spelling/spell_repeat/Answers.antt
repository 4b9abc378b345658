use Rattle.std.proofs.Common.{◌≡◌, ◌∙◌, ap, subst, ◌*◌, ◌≤◌, arith}
use Rattle.std.specs.Prelude.{◌||◌, ◌==◌}
use Rattle.std.proofs.lemmas.Option.{IfSome_then}
use Rattle.pattern_match.proofs.Spelled.{repeat_spelled, seen_over, starts_some, starts_zero}
use Rattle.pattern_syntax.specs.declared.node.Node.TheVariants.{Repeat}
use Rattle.pattern_match.specs.Operations.{seen_operation}
use Rattle.pattern_match.proofs.spelling.spell_repeat.Goals as goal
use Rattle.pattern_match.proofs.spelling.spell_repeat.Goals.{then-least-eq0, else-least-eq0}

pub returns : goal.returns
returns c =
    let h = c.in_ok-piece.ensures.item in
    let piece = c.in_ok-piece.piece.now in
    let copies = c.copies_of-copies.result in
    let some : c.if-least-eq0.holds_nothing ≡ ((c.args.least == 0) || piece.holds_nothing) =
    elim c.if-least-eq0.branch [
      | then-least-eq0 w ↦ starts_zero _ _ _ w.if-least-eq0.true w.holds_nothing-is
      | else-least-eq0 w ↦ starts_some _ _ _ w.if-least-eq0.false w.holds_nothing-is
    ] in
    IfSome_then c.repeated.result c.repeated.ensures
    (λ made seen. repeat_spelled c.args.operations.now piece made piece c.args.least c.args.most
    copies h.1 h.3.0 c.copies_of-copies.ensures (omega arith) c.if-copies-least.false
    (subst (λ n. n * copies ≤ 65535) c.from.ensures c.if-places-gt-MOST_PLACES.false)
    (seen ∙ ap (λ n. seen_over (Repeat c.args.least c.args.most) (seen_operation piece)
    (n * copies) c.if-least-eq0.holds_nothing) c.from.ensures
    ∙ ap (λ b. seen_over (Repeat c.args.least c.args.most) (seen_operation piece)
    (piece.places * copies) b) some))
