use Rattle.std.proofs.Common.{arith, map, subst, sym}
use Rattle.spec_match.specs.Remembering.{IsAnswer}
use Rattle.spec_match.specs.StatesFor.{patterns_of, spec_in}
use Rattle.spec_match.specs.Tables.{kept_in}
use Rattle.spec_match.proofs.TableLemmas.{answer_noted, answer_recalled}
use Rattle.spec_match.proofs.table.Table.answer.Goals as goal

pub returns-then-known-gt0-clause-answer : goal.returns-then-known-gt0-clause-answer
returns-then-known-gt0-clause-answer c = λ text a.
    let specs = map spec_in c.args.rules.now in
    subst (λ w. IsAnswer c.args.asked text specs w) (sym c.decoded.ensures)
    (answer_recalled (patterns_of c.args.rules.now) specs (kept_in c.args.self.now) c.args.list
    c.asked_number.result c.args.asked c.index-known.result.now
    c.asked_number.ensures.value c.asked_number.ensures.below c.requires.table c.requires.list
    c.index-known.ensures (omega arith) text a)

pub returns-clause-table : goal.returns-clause-table
returns-clause-table c =
    answer_noted (patterns_of c.args.rules.now) (map spec_in c.args.rules.now)
    (kept_in c.args.self.now) c.args.list c.asked_number.result c.args.asked c.coded.result
    c.first_fit-found.result
    c.asked_number.ensures.value c.asked_number.ensures.below c.requires.table c.requires.list
    (c.first_fit-found.ensures.answer c.args.self.now.cuts) c.coded.ensures

pub returns-clause-answer : goal.returns-clause-answer
returns-clause-answer c = c.first_fit-found.ensures.answer c.args.self.now.cuts
