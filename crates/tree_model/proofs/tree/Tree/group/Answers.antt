use Rattle.std.proofs.Common.{◌≡◌, ◌∙◌, ◌<◌, ap, sym, subst, arith, length, get_or}
use Rattle.tree_model.specs.Groups.{group_of, groups_in}
use Rattle.tree_model.proofs.KeptGroups.{group_count, group_shown, group_within}
use Rattle.tree_model.proofs.tree.Tree.group.Goals as goal

pub word_at-requires : goal.word_at-requires
word_at-requires c =
    let count = group_count c.self.inside.sorted _ _ _ c.self.invariant.groups_are.lists in
    omega (arith, c.requires, count, ap length c.self.view_is, ap length c.as_slice.ensures.value)

shown : (c : goal.After-word_at) → c.word_at.result ≡ group_of c.args.self.now c.args.e
shown c =
    c.word_at.ensures ∙ ap (λ ws. get_or ws c.args.e 0) c.as_slice.ensures.value
    ∙ group_shown c.self.inside.sorted _ _ _ c.self.invariant.groups_are.lists c.args.e
    (omega (arith, c.requires, ap length c.self.view_is))
    ∙ ap (λ es. group_of es c.args.e) c.self.view_is

pub returns-clause-value : goal.returns-clause-value
returns-clause-value c = shown c

pub returns-clause-within : goal.returns-clause-within
returns-clause-within c =
    subst (λ es. c.word_at.result < groups_in es) c.self.view_is
    (subst (λ k. k < groups_in c.self.inside.sorted)
    (sym (shown c ∙ ap (λ es. group_of es c.args.e) (sym c.self.view_is)))
    (group_within c.self.inside.sorted _ _ _ c.self.invariant.groups_are.lists c.args.e
    (omega (arith, c.requires, ap length c.self.view_is))))
