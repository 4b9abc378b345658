use Rattle.std.proofs.Common.{sym, subst}
use Rattle.context_syntax.specs.TypeNames.{IsTypeRow}
use Rattle.context_syntax.proofs.NameSets.{empty_row}
use Rattle.context_syntax.proofs.type_names.TypeNames.new.Goals as goal

pub invariant_of-result : goal.invariant_of-result
invariant_of-result c = subst IsTypeRow (sym c.new.ensures) empty_row
