use Rattle.std.proofs.Common.{◌∙◌, ap}
use Rattle.context_syntax.specs.TypeNames.{names_in_order}
use Rattle.context_syntax.proofs.NameSets.{names_in_order-set_of}
use Rattle.context_syntax.proofs.type_names.TypeNames.sorted.Goals as goal

pub returns-clause-names : goal.returns-clause-names
returns-clause-names c = names_in_order-set_of _ c.self.invariant.ordered
    ∙ ap names_in_order c.self.view_is
