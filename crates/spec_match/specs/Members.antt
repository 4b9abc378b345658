-- Specifications and the words of their marks, in memory that was reserved.
use Rattle.std.specs.Prelude.{◌≡◌, ℕ, ◌+◌, List, [], ◌∷◌, drop, take}
use Rattle.pattern_match.specs.States.{progress}
use Rattle.spec_match.specs.Alive.{Alive, alive}
use Rattle.spec_match.specs.declared.members.Member.{Member}

abbrev pub alive_in : List ℕ → Member → Alive
alive_in words member =
    alive member.index (progress member.seen (take member.width (drop member.start words)))
    member.wants

-- the marks of each member stand behind those of the one before, and no others do
abbrev pub AreLaidOut : ℕ → ℕ → List Member → Type 0
AreLaidOut end at [] = at ≡ end
AreLaidOut end at (member ∷ members) =
    (member.start ≡ at) × AreLaidOut end (at + member.width) members
