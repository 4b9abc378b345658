use Rattle.std.proofs.Common.{[], ◌∙◌, ap, length, subst, sym}
use Rattle.std.specs.List.{list_any}
use Rattle.std.specs.Option.{option_copied}
use Rattle.label_base.specs.Lines.{fields_left, fields_of}
use Rattle.home_contexts.specs.Homes.{is_long}
use Rattle.home_contexts.specs.Making.{GivesHomes}
use Rattle.home_contexts.proofs.Chosen.{flags_length, other_given, root_given}
use Rattle.home_contexts.proofs.TemplateLines.{line_parts}
use Rattle.home_contexts.proofs.expansion.give_by_line.Goals as goal

pub give_lines-requires-clause-flags : goal.give_lines-requires-clause-flags
give_lines-requires-clause-flags c = ap length c.requires.flags
    ∙ flags_length [] c.args.by.now.users.now

pub give_lines-requires-clause-parts : goal.give_lines-requires-clause-parts
give_lines-requires-clause-parts c =
    line_parts c.args.text.now c.in-Some.first.now (fields_left (option_copied c.in-Some.more))
    c.in-Some.ensures.found (sym c.is_comment.ensures ∙ c.if-is_comment.false) c.requires.feed

pub give_lines-requires-clause-short : goal.give_lines-requires-clause-short
give_lines-requires-clause-short c =
    let same = ap length c.requires.flags ∙ flags_length [] c.args.by.now.users.now in
    ap (list_any is_long)
    (sym (other_given c.args.by.now.users.now c.args.by.now.firsts.now c.args.number
    (fields_of c.args.text.now) c.in-Some.first.now (fields_left (option_copied
    c.in-Some.more)) c.in-Some.ensures.found
    (sym c.is_comment.ensures ∙ c.if-is_comment.false) same (sym c.held_by-held.ensures.other ∙
    c.if-held.true)))
    ∙ c.requires.short

pub returns-then-held : goal.returns-then-held
returns-then-held c =
    let same = ap length c.requires.flags ∙ flags_length [] c.args.by.now.users.now in
    subst (GivesHomes c.give_lines.result c.args.giving.now.made c.give_lines.new.giving.made)
    (sym (other_given
    c.args.by.now.users.now c.args.by.now.firsts.now c.args.number (fields_of c.args.text.now)
    c.in-Some.first.now (fields_left (option_copied c.in-Some.more)) c.in-Some.ensures.found
    (sym c.is_comment.ensures ∙ c.if-is_comment.false) same (sym c.held_by-held.ensures.other ∙
    c.if-held.true)))
    c.give_lines.ensures

pub give_lines-requires-then-held-2-clause-flags : goal.give_lines-requires-then-held-2-clause-flags
give_lines-requires-then-held-2-clause-flags c = ap length c.requires.flags ∙ flags_length []
    c.args.by.now.users.now

pub give_lines-requires-then-held-2-clause-parts : goal.give_lines-requires-then-held-2-clause-parts
give_lines-requires-then-held-2-clause-parts c =
    line_parts c.args.text.now c.in-Some.first.now (fields_left (option_copied c.in-Some.more))
    c.in-Some.ensures.found (sym c.is_comment.ensures ∙ c.if-is_comment.false) c.requires.feed

pub give_lines-requires-then-held-2-clause-short : goal.give_lines-requires-then-held-2-clause-short
give_lines-requires-then-held-2-clause-short c =
    ap (list_any is_long)
    (sym (root_given c.args.by.now.users.now c.args.by.now.firsts.now c.args.number
    (fields_of c.args.text.now) c.in-Some.first.now (fields_left (option_copied
    c.in-Some.more)) c.in-Some.ensures.found
    (sym c.is_comment.ensures ∙ c.if-is_comment.false) c.requires.flags (sym
    c.held_by-held.ensures.other ∙ c.if-held.false) (sym c.held_by-held.ensures.root ∙
    c.if-held-2.true)))
    ∙ c.requires.short

pub returns-then-held-2 : goal.returns-then-held-2
returns-then-held-2 c =
    subst (GivesHomes c.give_lines-then-held-2.result c.args.giving.now.made
    c.give_lines-then-held-2.new.giving.made)
    (sym (root_given c.args.by.now.users.now c.args.by.now.firsts.now c.args.number (fields_of
    c.args.text.now) c.in-Some.first.now (fields_left (option_copied c.in-Some.more))
    c.in-Some.ensures.found
    (sym c.is_comment.ensures ∙ c.if-is_comment.false) c.requires.flags (sym
    c.held_by-held.ensures.other ∙ c.if-held.false) (sym c.held_by-held.ensures.root ∙
    c.if-held-2.true)))
    c.give_lines-then-held-2.ensures
