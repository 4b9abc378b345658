-- Loops among the places of an automaton, as tests.
use Rattle.std.specs.Prelude.{ℕ, Bool, ◌&&◌, List, length, slice_get}
use Rattle.pattern_match.specs.Automaton.{Place}
use Rattle.pattern_match.specs.Over.{place_admitted}
use Rattle.pattern_match.specs.States.{bit}
use Rattle.pattern_match.specs.Tables.{any_under, ends, leads}
use Rattle.pattern_match.specs.declared.entry.EnteredPlaces.TheVariants.{ByEach}

-- a text may end behind place p, which leads to place q
abbrev pub ends_before : List Place → ℕ → ℕ → Bool
ends_before places q p = ends (slice_get places p) && leads (slice_get places p) q

-- a text may end behind the place, and every byte leads from it to itself
abbrev pub is_onward : List Place → ℕ → Bool
is_onward places q = ends_before places q q && place_admitted ByEach (slice_get places q)

-- a marked place behind which a text may end leads to this one
abbrev pub follows_end : List Place → List ℕ → ℕ → Bool
follows_end places marks q = any_under (λ p. bit marks p && ends_before places q p) (length places)

-- and that is a loop
abbrev pub is_loop_behind : List Place → List ℕ → ℕ → Bool
is_loop_behind places marks q = is_onward places q && follows_end places marks q
