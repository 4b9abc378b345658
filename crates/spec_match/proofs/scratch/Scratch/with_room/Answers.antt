use Rattle.std.proofs.Common.{◌≡◌, ◌∙◌, Bool, true, false, List, [], ap, map, subst, sym}
use Rattle.spec_match.specs.Remembering.{IsTableOf, Kept, kept}
use Rattle.spec_match.specs.Scratches.{IsScratchOf, IsTableReady}
use Rattle.spec_match.specs.StatesFor.{patterns_of, spec_in}
use Rattle.spec_match.specs.Tables.{kept_in, list_for}
use Rattle.spec_match.specs.Trail.{trace_in}
use Rattle.spec_match.specs.Workspaces.{remembered_in, room_in}
use Rattle.spec_match.specs.declared.compiled_spec.CompiledSpec.{CompiledSpec}
use Rattle.spec_match.specs.declared.table.Table.{Table}
use Rattle.spec_match.specs.declared.workspace.Workspace.{Workspace}
use Rattle.spec_match.proofs.ScratchLemmas.{scratch_of}
use Rattle.spec_match.proofs.TableLemmas.{nothing_kept}
use Rattle.spec_match.proofs.TrailLemmas.{no_trail}
use Rattle.spec_match.proofs.scratch.Scratch.with_room.Goals as goal

new_ready : (rules : List CompiledSpec) (table : Table) (cuts : Bool)
    → kept_in table ≡ kept cuts [] [] []
    [] → table.lists.draft ≡ [] → table.trail.known ≡ 0
    → IsTableReady (patterns_of rules) (map spec_in rules) (remembered_in table)
new_ready rules table cuts none draft trail = record {
  table = subst (IsTableOf (patterns_of rules) (map spec_in rules)) (sym none)
      (nothing_kept (patterns_of rules) (map spec_in rules) cuts);
  draft = draft;
  trail = no_trail (list_for rules table) table.lists.lists (trace_in table.trail) trail;
}

pub returns : goal.returns
returns c =
    let rules = c.rules.inside.rules.items in
    let table = c.in_ok-new.field-0 in
    let whole = c.in_ok-whole_table.field-0 in
    let work : Workspace =
    record {
      trials = c.in_ok-trials_of.field-0;
      table = table;
      whole = whole;
      fronts = c.new-2.result;
    } in
    let own = scratch_of rules c.args.rules.now c.rules.view_is work (record {
      states = rw c.as_slice.ensures.value at c.in_ok-trials_of.ensures;
      table = new_ready rules table true c.in_ok-new.ensures.kept c.in_ok-new.ensures.draft
          c.in_ok-new.ensures.trail;
      whole = new_ready rules whole false c.in_ok-whole_table.ensures.kept
          c.in_ok-whole_table.ensures.draft c.in_ok-whole_table.ensures.trail;
      is_whole = ap (λ (k : Kept). k.cuts) c.in_ok-whole_table.ensures.kept;
      fronts = λ e. let none : true ≡ false = sym e ∙ c.new-2.ensures in cc;
    }) in
    subst (λ (w : Workspace). IsScratchOf c.args.rules.now (room_in w))
    (sym c.in_ok-new-2.ensures.ok) own
