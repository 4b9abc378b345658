use Rattle.std.proofs.Common.{append-nil, sym, subst, ◌++◌, take}
use Rattle.relabel_core.specs.Walked.{walk_of}
use Rattle.relabel_workers.specs.PutBack.{ArePutBack, IsOpenNote}
use Rattle.relabel_workers.proofs.PutLemmas.{take_one, take_whole}
use Rattle.relabel_workers.proofs.put_back.put_row.Goals as goal

pub notes-init : goal.notes-init
notes-init c =
    λ done p. subst (λ xs. ArePutBack (walk_of c.args.input.now) xs c.args.noted.now
    c.args.swept.now) (sym (append-nil done)) p

pub put_note-requires-clause-note : goal.put_note-requires-clause-note
put_note-requires-clause-note c =
    subst (IsOpenNote (walk_of c.args.input.now)) (sym c.note-item.is)
    (c.requires.notes c.notes.note-index c.note-item.result c.notes-test.true)

pub notes-preserved : goal.notes-preserved
notes-preserved c = λ done p.
    subst (λ xs. ArePutBack (walk_of c.args.input.now) xs c.put_note.new.noted
    c.put_note.new.swept)
    (take_one done c.args.notes.now c.notes.note-index c.note-item.result c.notes-test.true
    c.note-item.is)
    (c.in_ok-put_note.ensures.put (done ++ take c.notes.note-index c.args.notes.now)
    (c.notes.invariant done p))

pub returns : goal.returns
returns c = record {
  put = λ done p.
      subst (λ xs. ArePutBack (walk_of c.args.input.now) xs c.notes.noted c.notes.swept)
      (take_whole done c.args.notes.now c.notes.note-index c.notes-test.false)
      (c.notes.invariant done p);
}
