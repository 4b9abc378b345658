-- What contracts see of a label after a walk.
use Rattle.context_syntax.specs.ContextRef.{context_lent}
use Rattle.context_syntax.specs.declared.label.Label.{Label}
use Rattle.context_syntax.specs.declared.label.Label.TheVariants.{Is}
use Rattle.label_rules.specs.declared.label_after.LabelAfter.{LabelAfter}
use Rattle.label_rules.specs.declared.label_after.LabelAfter.TheVariants.{Kept, Given}

-- the label that is lent
abbrev pub label_seen : LabelAfter → Label
label_seen (Kept label) = label.now
label_seen (Given context) = Is (context_lent context)
