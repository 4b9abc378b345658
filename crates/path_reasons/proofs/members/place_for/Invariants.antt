use Rattle.std.proofs.Common.{◌≡◌, ◌+◌, drop}
use Rattle.std.specs.List.{position_or_len}
use Rattle.path_reasons.specs.Members.{applies_to, spec_seen}
use Rattle.path_reasons.proofs.members.place_for.Given as goal

-- as many as were looked at stand before the place among those that are left
abbrev pub invariant-members : goal.invariant-members
invariant-members l = record {
  count : l.count ≡ l.member-index;
  place : l.count + position_or_len (λ m. applies_to l.asked (spec_seen m))
      (drop l.member-index l.members)
      ≡ position_or_len (λ m. applies_to l.asked (spec_seen m)) l.members;
}
