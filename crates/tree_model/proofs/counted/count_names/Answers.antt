use Rattle.std.proofs.Common.{◌≡◌, ◌∙◌, ◌<◌, ap, sym, subst, arith, length, get_or}
use Rattle.tree_model.specs.Groups.{group_of, groups_in, names_in}
use Rattle.tree_model.proofs.KeptGroups.{group_count, group_shown, group_within, part_is}
use Rattle.tree_model.proofs.counted.count_names.Goals as goal

pub word_at-group-requires : goal.word_at-group-requires
word_at-group-requires c =
    let count = group_count c.args.sorted.now _ _ _ c.requires.lists in
    omega (arith, c.requires.known, count, ap length c.as_slice.ensures.value)

pub part_at-requires : goal.part_at-requires
part_at-requires c =
    let s = c.args.sorted.now in
    let lists = c.requires.lists in
    let e = c.args.e in
    let own : c.word_at-group.result ≡ group_of s e = c.word_at-group.ensures
    ∙ ap (λ ws. get_or ws e 0) c.as_slice.ensures.value
    ∙ group_shown s _ _ _ lists e c.requires.known in
    let within : c.word_at-group.result < groups_in s =
    subst (λ g. g < groups_in s) (sym own) (group_within s _ _ _ lists e c.requires.known) in
    let p = part_is s s _ _ _ c.as_slice-2.result.now c.as_slice-3.result.now (λ i. s)
    c.as_slice-2.ensures.value c.as_slice-3.ensures.value lists c.word_at-group.result within in
    record { known = p.known; order = p.order; within = p.within }

pub returns : goal.returns
returns c =
    let s = c.args.sorted.now in
    let lists = c.requires.lists in
    let e = c.args.e in
    let own : c.word_at-group.result ≡ group_of s e = c.word_at-group.ensures
    ∙ ap (λ ws. get_or ws e 0) c.as_slice.ensures.value
    ∙ group_shown s _ _ _ lists e c.requires.known in
    let within : c.word_at-group.result < groups_in s =
    subst (λ g. g < groups_in s) (sym own) (group_within s _ _ _ lists e c.requires.known) in
    let p = part_is s s _ _ _ c.as_slice-2.result.now c.as_slice-3.result.now (λ i. s)
    c.as_slice-2.ensures.value c.as_slice-3.ensures.value lists c.word_at-group.result within in
    ap length (c.part_at.ensures ∙ p.value) ∙ ap (λ g. length (names_in s g)) own
