use Rattle.std.proofs.Common.{[], ◌∙◌, ap, length, sym}
use Rattle.std.specs.List.{list_any}
use Rattle.std.specs.Option.{option_copied}
use Rattle.label_base.specs.Lines.{fields_left, fields_of}
use Rattle.home_contexts.specs.Homes.{is_long}
use Rattle.home_contexts.proofs.Chosen.{flags_length, other_given, root_given}
use Rattle.home_contexts.proofs.long.has_long.Goals as goal

pub is_any_long-requires : goal.is_any_long-requires
is_any_long-requires c = ap length c.requires ∙ flags_length [] c.args.users.now

pub returns-then-held : goal.returns-then-held
returns-then-held c = λ number.
    let same = ap length c.requires ∙ flags_length [] c.args.users.now in
    c.is_any_long.ensures number
    ∙ ap (list_any is_long) (sym (other_given c.args.users.now c.args.firsts.now number (fields_of
    c.args.text.now) c.in-Some.first.now (fields_left (option_copied c.in-Some.more))
    c.in-Some.ensures.found
    (sym c.is_comment.ensures ∙ c.if-is_comment.false) same (sym c.held_by-held.ensures.other ∙
    c.if-held.true)))

pub is_any_long-requires-then-held-2 : goal.is_any_long-requires-then-held-2
is_any_long-requires-then-held-2 c = ap length c.requires ∙ flags_length [] c.args.users.now

pub returns-then-held-2 : goal.returns-then-held-2
returns-then-held-2 c = λ number.
    c.is_any_long-then-held-2.ensures number
    ∙ ap (list_any is_long) (sym (root_given c.args.users.now c.args.firsts.now number (fields_of
    c.args.text.now) c.in-Some.first.now (fields_left (option_copied c.in-Some.more))
    c.in-Some.ensures.found
    (sym c.is_comment.ensures ∙ c.if-is_comment.false) c.requires (sym c.held_by-held.ensures.other
    ∙ c.if-held.false) (sym c.held_by-held.ensures.root ∙ c.if-held-2.true)))
