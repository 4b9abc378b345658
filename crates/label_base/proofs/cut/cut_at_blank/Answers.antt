use Rattle.label_base.specs.Lines.{is_blank}
use Rattle.std.proofs.Common.{add-one}
use Rattle.std.proofs.lemmas.List.{take_rest}
use Rattle.label_base.proofs.Cuts.{split_first, split_none, front_first, front_none, behind_first}
use Rattle.label_base.proofs.Cuts.{behind_none}
use Rattle.label_base.proofs.cut.cut_at_blank.Goals as goal

pub returns-in-None-clause-pieces : goal.returns-in-None-clause-pieces
returns-in-None-clause-pieces c = split_none is_blank c.args.text.now c.in-None.ensures

pub returns-in-Some-clause-pieces : goal.returns-in-Some-clause-pieces
returns-in-Some-clause-pieces c =
    rw (take_rest, add-one)
    (split_first is_blank c.args.text.now c.in-Some.at c.in-Some.ensures.0.high
    c.in-Some.ensures.0.before c.in-Some.ensures.1)

pub returns-in-None-clause-front : goal.returns-in-None-clause-front
returns-in-None-clause-front c = front_none is_blank c.args.text.now c.in-None.ensures

pub returns-in-None-clause-behind : goal.returns-in-None-clause-behind
returns-in-None-clause-behind c = behind_none is_blank c.args.text.now c.in-None.ensures

pub returns-in-Some-clause-front : goal.returns-in-Some-clause-front
returns-in-Some-clause-front c = front_first is_blank c.args.text.now c.in-Some.at
    c.in-Some.ensures.0.high c.in-Some.ensures.0.before c.in-Some.ensures.1

pub returns-in-Some-clause-behind : goal.returns-in-Some-clause-behind
returns-in-Some-clause-behind c =
    rw (take_rest, add-one)
    (behind_first is_blank c.args.text.now c.in-Some.at c.in-Some.ensures.0.high
    c.in-Some.ensures.0.before c.in-Some.ensures.1)
