-- What contracts see of a rehearsal, which borrows its labels and contexts.
use Rattle.std.specs.Prelude.{map}
use Rattle.context_syntax.specs.ContextRef.{context_lent}
use Rattle.label_rules.specs.LabelAfter.{label_seen}
use Rattle.policy_rehearsal.specs.Rehearsal.{ChangeValue, RehearsedValue, TurnValue}
use Rattle.policy_rehearsal.specs.declared.rehearsed.Change.{Change}
use Rattle.policy_rehearsal.specs.declared.rehearsed.Rehearsed.{Rehearsed}
use Rattle.policy_rehearsal.specs.declared.rehearsed.VersionChanges.{VersionChanges}

abbrev pub change_lent : Change → ChangeValue
change_lent c = record { entry = c.entry; from = label_seen c.from; to = context_lent c.to }

abbrev pub turn_lent : VersionChanges → TurnValue
turn_lent t = record { changes = map change_lent t.changes; skipped = t.skipped }

abbrev pub rehearsed_lent : Rehearsed → RehearsedValue
rehearsed_lent r = record { turns = map turn_lent r.turns; labels = map label_seen r.labels }
