use Rattle.std.proofs.Common.{◌∙◌}
use Rattle.home_contexts.specs.Homes.{filled_fields}
use Rattle.home_contexts.specs.Making.{fields_in}
use Rattle.home_contexts.proofs.OneLine.{filled_alone, given_line, line_adds, line_short}
use Rattle.home_contexts.proofs.OneLine.{line_stops}
use Rattle.home_contexts.proofs.Refusals.{gives_stop}
use Rattle.home_contexts.proofs.giving.give_line.Goals as goal

pub check_line-requires : goal.check_line-requires
check_line-requires c =
    line_short c.args.user.now c.args.of.now.number (fields_in c.args.of.now)
    c.as_slice-text.result.now c.requires.short (c.as_slice-text.ensures ∙
    c.in_ok-make_line.ensures)

pub returns : goal.returns
returns c =
    let fields = fields_in c.args.of.now in
    let made = c.as_slice-text.ensures ∙ c.in_ok-make_line.ensures in
    line_adds c.args.giving.now.made c.add.new.self c.args.user.now _ c.args.of.now.number fields
    c.user.invariant
    c.user.view_is c.requires.parts
    (c.in_ok-check_line.ensures (filled_fields c.args.user.now fields) (filled_alone c.args.user.now
    _ fields c.user.invariant c.user.view_is c.requires.parts) made)
    (λ given h. c.in_ok-add.ensures given (given_line c.args.user.now c.args.of.now.number fields)
    made h)

pub returns-in_err-check_line : goal.returns-in_err-check_line
returns-in_err-check_line c =
    let fields = fields_in c.args.of.now in
    let made = c.as_slice-text.ensures ∙ c.in_ok-make_line.ensures in
    gives_stop _ _ _ _ _ c.from_residual-in_err-check_line.ensures.1
    (line_stops _ c.args.user.now c.args.of.now.number fields
    (c.in_err-check_line.ensures (filled_fields
    c.args.user.now fields) (filled_alone c.args.user.now _ fields c.user.invariant
    c.user.view_is c.requires.parts) made))
