use Rattle.std.proofs.Common.{subst, List}
use Rattle.pattern_match.specs.Spelling.{Leaves, SpellsNode}
use Rattle.pattern_match.specs.declared.operation.Operation.{Operation}
use Rattle.pattern_match.proofs.Alike.{one_less, one_more}
use Rattle.pattern_match.proofs.spelling.put.Goals as goal

pub returns-in-Some : goal.returns-in-Some
returns-in-Some c = λ done. one_less c.args.node.now c.args.operations.now.items
    c.truncate.new.self.items c.in-Some.kept c.truncate.ensures.items
    (subst (λ (os : List Operation). Leaves c.args.node.now os c.in-Some.kept)
    c.as_slice.ensures.value c.in-Some.ensures)

pub returns : goal.returns
returns c = λ done. one_more c.args.node.now c.args.operations.now.items c.push.new.self.items
    c.in-Some-spell.operation c.in_ok-push.ensures.items
    (subst (λ (os : List Operation). SpellsNode c.args.node.now os c.in-Some-spell.operation)
    c.as_slice-2.ensures.value c.in-Some-spell.ensures)
