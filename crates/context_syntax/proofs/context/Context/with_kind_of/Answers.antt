use Rattle.std.proofs.Common.{◌∙◌, ap, subst, rules, length}
use Rattle.context_syntax.specs.Context.{IsContext, before_kind}
use Rattle.context_syntax.proofs.ContextText.{retyped_is, retyped_text}
use Rattle.context_syntax.proofs.context.Context.with_kind_of.Goals as goal

pub invariant_of-result : goal.invariant_of-result
invariant_of-result c =
    retyped_text c.args.self.now c.args.other.now _ _ _
    (subst IsContext c.self.view_is c.self.invariant.spelled.parts)
    (subst IsContext c.other.view_is c.other.invariant.spelled.parts) (search rules)
    (c.self.invariant.at ∙ ap (λ v. length (before_kind v)) c.self.view_is) (search rules)

pub returns : goal.returns
returns c =
    retyped_is c.args.self.now c.args.other.now c.extend_from_slice-3.new.self.items
    (subst IsContext c.self.view_is c.self.invariant.spelled.parts)
    (subst IsContext c.other.view_is c.other.invariant.spelled.parts) (search rules)
