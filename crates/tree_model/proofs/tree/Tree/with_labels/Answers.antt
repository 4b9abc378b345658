use Rattle.std.proofs.Common.{◌≡◌, ◌∙◌, ◌<◌, ap, sym, subst, arith, length, get_or}
use Rattle.tree_model.specs.Groups.{groups_in}
use Rattle.tree_model.specs.Kept.{IsTreeKept}
use Rattle.tree_model.specs.Labelled.{DifferInLabels, labelled}
use Rattle.tree_model.proofs.KeptGroups.{group_count, group_shown, group_within}
use Rattle.tree_model.proofs.LabelledLemmas.{are_places, with_differ, with_groups, with_kept}
use Rattle.tree_model.proofs.tree.Tree.with_labels.Goals as goal

pub with_labels-requires-clause-counted : goal.with_labels-requires-clause-counted
with_labels-requires-clause-counted c =
    ap length c.as_slice-numbers.ensures.value ∙ group_count c.self.inside.sorted _ _ _
    c.self.invariant.groups_are.lists

pub with_labels-requires-clause-known : goal.with_labels-requires-clause-known
with_labels-requires-clause-known c =
    let s = c.self.inside in
    let same = c.as_slice-numbers.ensures.value in
    let count = group_count s.sorted _ _ _ c.self.invariant.groups_are.lists in
    let total : length c.args.labels.now ≡ groups_in s.sorted = c.requires
    ∙ ap groups_in (sym c.self.view_is) in
    are_places (length c.args.labels.now) c.as_slice-numbers.result.now
    (λ e l.
    let w : e < length s.sorted = omega (arith, l, ap length same, count) in
    let t = group_within s.sorted _ _ _ c.self.invariant.groups_are.lists e w in
    subst (λ gs. get_or gs e 0 < length c.args.labels.now) (sym same)
    (subst (λ k. get_or s.groups.group_of.items e 0 < k) (sym total)
    (subst (λ k. k < groups_in s.sorted)
    (sym (group_shown s.sorted _ _ _ c.self.invariant.groups_are.lists e w)) t)))

pub invariant_of-result : goal.invariant_of-result
invariant_of-result c =
    let s = c.self.inside in
    let same = c.as_slice-numbers.ensures.value in
    let count = group_count s.sorted _ _ _ c.self.invariant.groups_are.lists in
    subst (λ es. IsTreeKept es c.in_ok-ends.ends.items c.in_ok-groups.groups
    c.in_ok-directories.directories.items) (sym c.in_ok-with_labels.ensures)
    (with_kept c.args.labels.now c.as_slice-numbers.result.now s.sorted (ap length same ∙ count)
    s.ends.items c.in_ok-ends.ends.items s.groups c.in_ok-groups.groups s.directories.items
    c.in_ok-directories.directories.items
    (c.in_ok-ends.ensures.items ∙ c.as_slice.ensures.value) (c.in_ok-directories.ensures.items
    ∙ c.as_slice-2.ensures.value)
    c.in_ok-groups.ensures.total c.in_ok-groups.ensures.group_of c.in_ok-groups.ensures.names
    c.in_ok-groups.ensures.starts c.in_ok-groups.ensures.closed c.self.invariant)

pub returns-clause-value : goal.returns-clause-value
returns-clause-value c =
    let s = c.self.inside in
    let same = c.as_slice-numbers.ensures.value in
    let count = group_count s.sorted _ _ _ c.self.invariant.groups_are.lists in
    c.in_ok-with_labels.ensures
    ∙ with_groups c.args.labels.now c.as_slice-numbers.result.now s.sorted (ap length same ∙ count)
    (λ e l. ap (λ gs. get_or gs e 0) same
    ∙ group_shown s.sorted _ _ _ c.self.invariant.groups_are.lists e l)
    ∙ ap (labelled c.args.labels.now) c.self.view_is

pub returns-clause-same : goal.returns-clause-same
returns-clause-same c =
    let s = c.self.inside in
    let same = c.as_slice-numbers.ensures.value in
    let count = group_count s.sorted _ _ _ c.self.invariant.groups_are.lists in
    subst (λ old. DifferInLabels old c.in_ok-with_labels.field-0) c.self.view_is
    (subst (DifferInLabels s.sorted) (sym c.in_ok-with_labels.ensures)
    (with_differ c.args.labels.now c.as_slice-numbers.result.now s.sorted
    (ap length same ∙ count)))
