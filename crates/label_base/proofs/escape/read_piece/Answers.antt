use Rattle.std.proofs.Common.{◌∙◌, ap, sym, drop}
use Rattle.std.proofs.lemmas.List.{take_rest}
use Rattle.label_base.specs.Escape.{in_front, led_by, unescaped}
use Rattle.label_base.proofs.EscapeLemmas.{after_three, after_cut}
use Rattle.label_base.proofs.escape.read_piece.Goals as goal

pub returns-clause-ok : goal.returns-clause-ok
returns-clause-ok c =
    let digits = sym c.octal_byte.ensures ∙ c.in-Some.is in
    let rest = drop 3 c.args.text.now in
    rw (
      c.in_ok-push.ensures.ok,
      c.in_ok-push_byte.ensures.ok,
      c.cut_at.ensures.front,
      c.cut_at.ensures.behind,
      take_rest,
    )
    (ap (in_front c.args.read.now) (after_three c.args.text.now c.in-len3-up.len_at_least
    ∙ ap (λ o. led_by o (unescaped rest)) digits) ∙ after_cut c.args.read.now c.in-Some.b rest)
