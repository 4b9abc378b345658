use Rattle.std.proofs.Common.{◌≡◌, ap, false, subst, sym}
use Rattle.std.specs.List.{list_any}
use Rattle.home_contexts.specs.Homes.{given_to, is_long}
use Rattle.home_contexts.specs.Making.{GivesHomes, fields_in, for_user}
use Rattle.home_contexts.proofs.Going.{adds_none}
use Rattle.home_contexts.proofs.giving.give_if.Goals as goal

pub give_line-requires-clause-short : goal.give_line-requires-clause-short
give_line-requires-clause-short c =
    subst (λ v. list_any is_long (given_to (for_user v c.args.user.now) c.args.of.now.number
    (fields_in c.args.of.now)) ≡ false) c.if-is_for.true
    c.requires.short

pub returns-then-is_for : goal.returns-then-is_for
returns-then-is_for c =
    subst (λ v. GivesHomes c.give_line.result c.args.giving.now.made c.give_line.new.giving.made
    (given_to (for_user v
    c.args.user.now) c.args.of.now.number (fields_in c.args.of.now))) (sym c.if-is_for.true)
    c.give_line.ensures

pub returns : goal.returns
returns c =
    let fields = fields_in c.args.of.now in
    adds_none c.args.giving.now.made
    (given_to (for_user c.args.is_for c.args.user.now) c.args.of.now.number
    fields) (ap (λ v. given_to (for_user v c.args.user.now) c.args.of.now.number fields)
    c.if-is_for.false)
