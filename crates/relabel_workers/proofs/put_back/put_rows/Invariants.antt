use Rattle.std.proofs.Common.{List, ◌++◌, take}
use Rattle.std.specs.List.{flat_map}
use Rattle.relabel_core.specs.Walked.{walk_of}
use Rattle.relabel_workers.specs.PutBack.{ArePutBack}
use Rattle.relabel_workers.specs.declared.note.Note.{Note}
use Rattle.relabel_workers.proofs.put_back.put_rows.Given as goal

abbrev pub invariant-rows : goal.invariant-rows
invariant-rows l = (done : List Note) → ArePutBack (walk_of l.input) done l.fn.noted l.fn.swept
    → ArePutBack (walk_of l.input) (done ++ flat_map (λ row. row.items) (take l.row-index l.rows))
    l.noted l.swept
