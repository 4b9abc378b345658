-- What a scratch has, as contracts see it.
use Rattle.std.specs.Prelude.{List, map}
use Rattle.spec_match.specs.Scratches.{IsRoomReady, Remembered, ScratchParts}
use Rattle.spec_match.specs.StatesFor.{patterns_of, spec_in}
use Rattle.spec_match.specs.Tables.{kept_in}
use Rattle.spec_match.specs.Trail.{trace_in}
use Rattle.spec_match.specs.declared.compiled_spec.CompiledSpec.{CompiledSpec}
use Rattle.spec_match.specs.declared.table.Table.{Table}
use Rattle.spec_match.specs.declared.workspace.Workspace.{Workspace}

abbrev pub remembered_in : Table → Remembered
remembered_in t =
    record { table = kept_in t; draft = t.lists.draft; trail = trace_in t.trail }

abbrev pub room_in : Workspace → ScratchParts
room_in w = record {
  states = w.trials.states;
  table = remembered_in w.table;
  whole = remembered_in w.whole;
  are_made = w.fronts.are_made;
  fronts = w.fronts.keys.items;
}

-- look-ups in these specifications may work in it
abbrev pub IsWorkspaceFor : List CompiledSpec → Workspace → Type 0
IsWorkspaceFor rules w = IsRoomReady (patterns_of rules) (map spec_in rules) (room_in w)
