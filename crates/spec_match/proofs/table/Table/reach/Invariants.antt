use Rattle.std.proofs.Common.{◌≡◌, ◌<◌, ◌-◌, [], length, map}
use Rattle.spec_match.specs.Remembering.{IsTableOf}
use Rattle.spec_match.specs.StatesFor.{AreStatesFor, patterns_of, spec_in}
use Rattle.spec_match.specs.Tables.{kept_in, list_for}
use Rattle.spec_match.specs.Trail.{IsOnWay, trace_in}
use Rattle.spec_match.proofs.table.Table.reach.Given as goal

-- the list is right behind what was read
abbrev pub invariant-text : goal.invariant-text
invariant-text l = record {
  states : AreStatesFor (patterns_of l.rules) l.states;
  table : IsTableOf (patterns_of l.rules) (map spec_in l.rules) (kept_in l.self);
  cuts : l.self.cuts ≡ l.fn.self.cuts;
  draft : l.self.lists.draft ≡ [];
  begun : 0 < length l.self.lists.lists;
  way : IsOnWay (list_for l.rules l.self) l.self.lists.lists l.text (trace_in l.self.trail) l.way.at
      l.way.list;
}

-- what is left of the text
abbrev pub decreases-text : goal.decreases-text
decreases-text l = length l.text - l.way.at
