use Rattle.std.proofs.Common.{◌≡◌, ◌≤◌, length, take}
use Rattle.spec_match.specs.LastMatch.{last_index}
use Rattle.spec_match.proofs.direct.find_last.Given as goal

-- the last of those that are left is the last of all
abbrev pub invariant-specs : goal.invariant-specs
invariant-specs l = record {
  within : l.left ≤ length l.specs;
  last : last_index l.query.asked l.query.text.now (take l.left l.specs)
      ≡ last_index l.query.asked l.query.text.now l.specs;
}

abbrev pub decreases-specs : goal.decreases-specs
decreases-specs l = l.left
