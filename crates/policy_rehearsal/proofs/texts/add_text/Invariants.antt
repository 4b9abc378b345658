use Rattle.std.proofs.Common.{◌≡◌, ◌++◌}
use Rattle.std.specs.List.{flat_map}
use Rattle.label_base.specs.Bounded.{all_numbers}
use Rattle.policy_rehearsal.specs.Lent.{rehearsed_lent}
use Rattle.policy_rehearsal.specs.Text.{text_at}
use Rattle.policy_rehearsal.proofs.texts.add_text.Given as goal

-- the turns so far
abbrev pub invariant-versions : goal.invariant-versions
invariant-versions l =
    l.text
    ≡ l.initial.text
    ++ flat_map (text_at l.tree l.names (rehearsed_lent l.rehearsed).turns) (all_numbers l.k)
