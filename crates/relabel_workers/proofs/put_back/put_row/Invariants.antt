use Rattle.std.proofs.Common.{List, ◌++◌, take}
use Rattle.relabel_core.specs.Walked.{walk_of}
use Rattle.relabel_workers.specs.PutBack.{ArePutBack}
use Rattle.relabel_workers.specs.declared.note.Note.{Note}
use Rattle.relabel_workers.proofs.put_back.put_row.Given as goal

abbrev pub invariant-notes : goal.invariant-notes
invariant-notes l = (done : List Note) → ArePutBack (walk_of l.input) done l.fn.noted l.fn.swept
    → ArePutBack (walk_of l.input) (done ++ take l.note-index l.notes) l.noted l.swept
