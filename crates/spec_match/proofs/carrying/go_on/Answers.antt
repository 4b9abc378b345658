use Rattle.std.proofs.Common.{arith}
use Rattle.spec_match.specs.StatesFor.{patterns_of}
use Rattle.spec_match.proofs.AliveLemmas.{all_stepped}
use Rattle.spec_match.proofs.SteppingLemmas.{rule_stepped}
use Rattle.spec_match.proofs.carrying.go_on.Goals as goal

pub alive-preserved : goal.alive-preserved
alive-preserved c =
    rule_stepped c.args.rules.now c.args.from.now c.alive.k c.index-i.result c.index-rules-i.result
    (omega (arith, c.len-k-end.ensures)) c.requires c.index-i.ensures c.index-rules-i.is
    c.args.text.now c.alive.to c.go_on_one.new.to c.in_ok-go_on_one.ensures c.alive.invariant

pub returns-clause-leads : goal.returns-clause-leads
returns-clause-leads c = λ text. all_stepped (patterns_of c.args.rules.now) c.args.text.now
    c.args.from.now c.alive.to c.alive.k (omega (arith, c.len-k-end.ensures)) c.alive.invariant text
    0
