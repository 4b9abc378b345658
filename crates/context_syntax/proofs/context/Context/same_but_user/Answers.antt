use Rattle.std.proofs.Common.{◌∙◌}
use Rattle.context_syntax.specs.Equal.{but_user_decides}
use Rattle.context_syntax.proofs.ContextText.{same_behind}
use Rattle.context_syntax.proofs.context.Context.same_but_user.Goals as goal

pub returns-clause-computed : goal.returns-clause-computed
returns-clause-computed c =
    rw (← c.self.view_is, ← c.other.view_is) (c.eq.ensures
    ∙ rw (
      c.behind_colon.ensures,
      c.behind_colon-2.ensures,
      c.as_slice.ensures.value,
      c.as_slice-2.ensures.value,
    ) (same_behind c.self.inside.text.items c.other.inside.text.items c.self.invariant.spelled
    c.other.invariant.spelled))

pub returns-clause-equal : goal.returns-clause-equal
returns-clause-equal c =
    rw (returns-clause-computed c) (but_user_decides c.args.self.now c.args.other.now)
