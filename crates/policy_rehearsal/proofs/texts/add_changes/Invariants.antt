use Rattle.std.proofs.Common.{◌≡◌, ◌++◌, drop}
use Rattle.std.specs.Prelude.{map}
use Rattle.report_text.specs.Texts.{report_of}
use Rattle.policy_rehearsal.specs.Lent.{change_lent}
use Rattle.policy_rehearsal.specs.Text.{change_message}
use Rattle.policy_rehearsal.proofs.texts.add_changes.Given as goal

-- the lines so far, and those of the changes that are left
abbrev pub invariant-changes : goal.invariant-changes
invariant-changes l =
    l.text ++ report_of
    (map (change_message l.tree) (map change_lent (drop l.change-index l.changes)))
    ≡ l.initial.text ++ report_of (map (change_message l.tree) (map change_lent l.changes))
