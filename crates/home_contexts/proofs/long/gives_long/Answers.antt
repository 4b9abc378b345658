use Rattle.std.proofs.Common.{◌+◌, ◌∙◌, refl}
use Rattle.home_contexts.proofs.Measured.{line_no}
use Rattle.home_contexts.proofs.long.gives_long.Goals as goal

pub lines-init : goal.lines-init
lines-init c = (1, refl)

pub lines-preserved : goal.lines-preserved
lines-preserved c =
    let number = c.lines.invariant.0 in (
      number + 1,
      c.lines.invariant.1 ∙ line_no c.args.users.now number c.lines.left.now
          c.in-Some.text.now c.in-Some.rest.now c.has_long.result c.in-Some.ensures.found
          (c.has_long.ensures number) c.if-has_long.false,
    )
