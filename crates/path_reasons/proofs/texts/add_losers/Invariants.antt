use Rattle.std.proofs.Common.{◌≡◌, ◌++◌, drop}
use Rattle.std.specs.List.{flat_map}
use Rattle.path_reasons.specs.Members.{spec_seen}
use Rattle.path_reasons.specs.Texts.{loser_line}
use Rattle.path_reasons.proofs.texts.add_losers.Given as goal

-- the lines so far, and those of the members that are left
abbrev pub invariant-members : goal.invariant-members
invariant-members l =
    l.text ++ flat_map (λ m. loser_line l.names l.asked l.exact (spec_seen m))
    (drop l.member-index l.members)
    ≡ l.initial.text ++ flat_map (λ m. loser_line l.names l.asked l.exact (spec_seen m)) l.members
