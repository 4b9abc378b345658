-- What a table keeps, as contracts see it.
use Rattle.std.specs.Prelude.{ℕ, List, map}
use Rattle.spec_match.specs.Alive.{Alive}
use Rattle.spec_match.specs.Listed.{IsListed}
use Rattle.spec_match.specs.Remembering.{IsTableOf, Kept, kept}
use Rattle.spec_match.specs.StatesFor.{patterns_of, spec_in}
use Rattle.spec_match.specs.Trail.{IsOnWay, IsTrail, trace_in}
use Rattle.spec_match.specs.declared.compiled_spec.CompiledSpec.{CompiledSpec}
use Rattle.spec_match.specs.declared.table.Table.{Table}
use Rattle.spec_match.specs.declared.trail.Reached.{Reached}

abbrev pub kept_in : Table → Kept
kept_in t = kept t.cuts t.lists.lists t.next.items t.answers.items t.stays.items

-- for which texts its lists are
abbrev pub list_for : List CompiledSpec → Table → List ℕ → List Alive → Type 0
list_for rules t = IsListed t.cuts (patterns_of rules) (map spec_in rules)

-- what the table keeps is right for the specifications
abbrev pub IsTableFor : List CompiledSpec → Table → Type 0
IsTableFor rules t = IsTableOf (patterns_of rules) (map spec_in rules) (kept_in t)

-- what it keeps of the text that was read last is right
abbrev pub IsTrailFor : List CompiledSpec → Table → Type 0
IsTrailFor rules t = IsTrail (list_for rules t) t.lists.lists (trace_in t.trail)

-- it has read a text up to a place
abbrev pub IsOnWayFor : List CompiledSpec → Table → List ℕ → Reached → Type 0
IsOnWayFor rules t text to =
    IsOnWay (list_for rules t) t.lists.lists text (trace_in t.trail) to.at to.list
