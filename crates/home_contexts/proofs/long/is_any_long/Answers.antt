use Rattle.std.proofs.Common.{◌∷◌, ◌∙◌, ap, arith, sym}
use Rattle.std.specs.List.{list_any}
use Rattle.std.specs.Option.{option_copied}
use Rattle.label_base.specs.Lines.{fields_left}
use Rattle.home_contexts.specs.Homes.{is_long}
use Rattle.home_contexts.proofs.Chosen.{flag_itself, given_end}
use Rattle.home_contexts.proofs.Measured.{long_no, long_yes}
use Rattle.home_contexts.proofs.long.is_any_long.Goals as goal

pub returns-then-is_long_for : goal.returns-then-is_long_for
returns-then-is_long_for c = λ number.
    let found = long_yes c.args.all c.args.flags.now c.args.users.now c.users.i _
    c.index-users-i.result (c.args.first.now ∷ fields_left (option_copied c.args.more))
    c.is_for.result c.is_long_for.result (omega arith) c.requires
    (flag_itself c.args.flags.now c.users.i _ (omega (arith, c.requires))) c.index-users-i.is
    c.is_for.ensures c.is_long_for.ensures c.if-is_long_for.true number in
    sym (c.users.invariant number ∙ found)

pub users-preserved : goal.users-preserved
users-preserved c = λ number.
    c.users.invariant number
    ∙ long_no c.args.all c.args.flags.now c.args.users.now c.users.i _ c.index-users-i.result
    (c.args.first.now ∷ fields_left (option_copied c.args.more)) c.is_for.result
    c.is_long_for.result (omega arith) c.requires
    (flag_itself c.args.flags.now c.users.i _ (omega (arith, c.requires))) c.index-users-i.is
    c.is_for.ensures c.is_long_for.ensures c.if-is_long_for.false number

pub returns : goal.returns
returns c = λ number.
    sym (c.users.invariant number
    ∙ ap (list_any is_long) (given_end c.args.all c.args.flags.now c.args.users.now c.users.i number
    (c.args.first.now ∷ fields_left (option_copied c.args.more)) (omega arith)))
