use Rattle.std.proofs.Common.{◌+◌, ◌∙◌, ap, subst, sym, List}
use Rattle.pattern_syntax.specs.Reading.{positions}
use Rattle.pattern_match.specs.Operations.{SpellTree, operations_tree}
use Rattle.pattern_match.specs.declared.operation.Operation.{Operation}
use Rattle.pattern_match.proofs.RunOperations.{operations_ready}
use Rattle.pattern_match.proofs.readying.with_operations.Goals as goal

pub of-requires : goal.of-requires
of-requires c = subst (λ (os : List Operation). SpellTree os (operations_tree os))
    (sym c.as_slice.ensures.value) c.requires.1.spell

pub returns : goal.returns
returns c = λ tree a. operations_ready tree c.args.operations.items (c.places-rows.result + 1)
    c.in_ok-words_for.field-0 c.new.result.items c.new-2.result.items c.new-3.result.items a
    (ap (λ n. n + 1) (c.places-rows.ensures ∙ ap positions (c.of.ensures
    ∙ ap operations_tree c.as_slice.ensures.value)))
    c.in_ok-words_for.ensures
