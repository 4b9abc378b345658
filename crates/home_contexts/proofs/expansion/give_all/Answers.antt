use Rattle.std.proofs.Common.{◌+◌, arith}
use Rattle.label_base.specs.Lines.{fields_of, lines_of}
use Rattle.home_contexts.specs.Homes.{given_by_fields, given_from}
use Rattle.home_contexts.proofs.Going.{going_more}
use Rattle.home_contexts.proofs.Refusals.{going_refused}
use Rattle.home_contexts.proofs.TemplateLines.{first_feed, lines_split}
use Rattle.home_contexts.proofs.expansion.give_all.Goals as goal

pub give_by_line-requires-clause-feed : goal.give_by_line-requires-clause-feed
give_by_line-requires-clause-feed c = first_feed c.lines.left.now c.in-Some.text.now
    c.in-Some.rest.now c.in-Some.ensures.found

pub returns-in_err-give_by_line : goal.returns-in_err-give_by_line
returns-in_err-give_by_line c =
    going_refused _ _ _ _ _ _ _
    (given_by_fields c.args.by.now.users.now (c.lines.number + 1) (fields_of
    c.in-Some.text.now)) (given_from c.args.by.now.users.now (c.lines.number + 1 + 1) (lines_of
    c.in-Some.rest.now))
    c.from_residual.ensures.1 c.lines.invariant.going
    (lines_split c.args.by.now.users.now (c.lines.number
    + 1) c.lines.left.now c.in-Some.text.now c.in-Some.rest.now c.in-Some.ensures.found)
    c.in_err-give_by_line.ensures

pub lines-preserved : goal.lines-preserved
lines-preserved c = record {
  going = going_more _ _ _ _ _
      (given_by_fields c.args.by.now.users.now (c.lines.number + 1) (fields_of
      c.in-Some.text.now)) (given_from c.args.by.now.users.now (c.lines.number + 1 + 1) (lines_of
      c.in-Some.rest.now))
      c.lines.invariant.going
      (lines_split c.args.by.now.users.now (c.lines.number + 1) c.lines.left.now
      c.in-Some.text.now c.in-Some.rest.now c.in-Some.ensures.found)
      c.in_ok-give_by_line.ensures;
  count = omega (arith, c.in-Some.ensures.shorter);
}
