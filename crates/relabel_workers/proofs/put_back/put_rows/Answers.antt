use Rattle.std.proofs.Common.{List, ◌∙◌, ap, append-nil, sym, subst, ◌++◌, take}
use Rattle.std.specs.Prelude.{All}
use Rattle.std.specs.List.{flat_map}
use Rattle.std.specs.Global.{Vec}
use Rattle.relabel_core.specs.Walked.{walk_of}
use Rattle.relabel_workers.specs.PutBack.{ArePutBack, IsOpenNote}
use Rattle.relabel_workers.specs.declared.note.Note.{Note}
use Rattle.relabel_workers.proofs.PutLemmas.{row_notes, take_row, take_rows}
use Rattle.relabel_workers.proofs.put_back.put_rows.Goals as goal

abbrev items_of : Vec Note → List Note
items_of row = row.items

pub rows-init : goal.rows-init
rows-init c =
    λ done p. subst (λ xs. ArePutBack (walk_of c.args.input.now) xs c.args.noted.now
    c.args.swept.now) (sym (append-nil done)) p

pub put_row-requires-clause-notes : goal.put_row-requires-clause-notes
put_row-requires-clause-notes c = subst (All (IsOpenNote (walk_of c.args.input.now)))
    (sym c.as_slice.ensures.value)
    (row_notes (IsOpenNote (walk_of c.args.input.now)) items_of c.args.rows.now c.rows.row-index
    c.row-item.result c.rows-test.true c.row-item.is c.requires.notes)

pub rows-preserved : goal.rows-preserved
rows-preserved c = λ done p.
    subst (λ xs. ArePutBack (walk_of c.args.input.now) xs c.put_row.new.noted c.put_row.new.swept)
    (ap (λ ys. (done ++ flat_map items_of (take c.rows.row-index c.args.rows.now)) ++ ys)
    c.as_slice.ensures.value ∙ take_row items_of done c.args.rows.now c.rows.row-index
    c.row-item.result c.rows-test.true c.row-item.is)
    (c.in_ok-put_row.ensures.put (done ++ flat_map items_of (take c.rows.row-index c.args.rows.now))
    (c.rows.invariant done p))

pub returns : goal.returns
returns c = record {
  put = λ done p.
      subst (λ xs. ArePutBack (walk_of c.args.input.now) xs c.rows.noted c.rows.swept)
      (take_rows items_of done c.args.rows.now c.rows.row-index c.rows-test.false)
      (c.rows.invariant done p);
}
