use Rattle.std.proofs.Common.{◌+◌, arith, drop}
use Rattle.home_contexts.specs.Homes.{given_to}
use Rattle.home_contexts.specs.Making.{chosen, fields_in, for_user}
use Rattle.home_contexts.proofs.Chosen.{flag_itself, given_end, given_next}
use Rattle.home_contexts.proofs.Going.{going_first, going_last, going_more, next_short}
use Rattle.home_contexts.proofs.Refusals.{going_refused}
use Rattle.home_contexts.proofs.giving.give_lines.Goals as goal

pub users-init : goal.users-init
users-init c =
    going_first c.args.giving.now.made (given_to (chosen c.args.all c.args.by.now.firsts.now
    c.args.by.now.users.now) c.args.of.now.number (fields_in c.args.of.now))

pub give_if-requires-clause-short : goal.give_if-requires-clause-short
give_if-requires-clause-short c =
    let fields = fields_in c.args.of.now in
    next_short _ _ _ _
    (given_to (for_user c.is_for.result c.index-users-i.result) c.args.of.now.number
    fields) (given_to (chosen c.args.all (drop (c.users.i + 1) c.args.by.now.firsts.now) (drop
    (c.users.i + 1) c.args.by.now.users.now)) c.args.of.now.number fields)
    c.users.invariant
    (given_next c.args.all c.args.by.now.firsts.now c.args.by.now.users.now c.users.i _
    c.index-users-i.result
    c.is_for.result c.args.of.now.number fields (omega arith) c.requires.flags
    (flag_itself c.args.by.now.firsts.now c.users.i _ (omega (arith, c.requires.flags)))
    c.index-users-i.is
    c.is_for.ensures)
    c.requires.short

pub returns-in_err-give_if : goal.returns-in_err-give_if
returns-in_err-give_if c =
    let fields = fields_in c.args.of.now in
    going_refused _ _ _ _ _ _ _ (given_to (for_user c.is_for.result c.index-users-i.result)
    c.args.of.now.number fields)
    (given_to (chosen c.args.all (drop (c.users.i + 1) c.args.by.now.firsts.now)
    (drop (c.users.i + 1) c.args.by.now.users.now)) c.args.of.now.number fields)
    c.from_residual.ensures.1 c.users.invariant
    (given_next c.args.all c.args.by.now.firsts.now c.args.by.now.users.now c.users.i _
    c.index-users-i.result
    c.is_for.result c.args.of.now.number fields (omega arith) c.requires.flags
    (flag_itself c.args.by.now.firsts.now c.users.i _ (omega (arith, c.requires.flags)))
    c.index-users-i.is
    c.is_for.ensures)
    c.in_err-give_if.ensures

pub users-preserved : goal.users-preserved
users-preserved c =
    let fields = fields_in c.args.of.now in
    going_more _ _ _ _ _
    (given_to (for_user c.is_for.result c.index-users-i.result) c.args.of.now.number
    fields) (given_to (chosen c.args.all (drop (c.users.i + 1) c.args.by.now.firsts.now) (drop
    (c.users.i + 1) c.args.by.now.users.now)) c.args.of.now.number fields)
    c.users.invariant
    (given_next c.args.all c.args.by.now.firsts.now c.args.by.now.users.now c.users.i _
    c.index-users-i.result
    c.is_for.result c.args.of.now.number fields (omega arith) c.requires.flags
    (flag_itself c.args.by.now.firsts.now c.users.i _ (omega (arith, c.requires.flags)))
    c.index-users-i.is
    c.is_for.ensures)
    c.in_ok-give_if.ensures

pub returns : goal.returns
returns c =
    going_last _ _ _ _ c.users.invariant
    (given_end c.args.all c.args.by.now.firsts.now c.args.by.now.users.now
    c.users.i c.args.of.now.number (fields_in c.args.of.now)
    (omega arith))
