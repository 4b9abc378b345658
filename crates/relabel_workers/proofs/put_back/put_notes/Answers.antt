use Rattle.std.proofs.Common.{List, ◌++◌, ◌∙◌, ap, append_assoc, sym, subst, OnOk}
use Rattle.std.specs.Prelude.{All}
use Rattle.std.specs.List.{flat_map}
use Rattle.std.specs.Global.{Vec}
use Rattle.relabel_core.specs.Walked.{walk_of}
use Rattle.relabel_workers.specs.PutBack.{ArePutBack, IsOpenNote}
use Rattle.relabel_workers.specs.declared.note.Note.{Note}
use Rattle.relabel_workers.proofs.PutLemmas.{front_notes, last_notes}
use Rattle.relabel_workers.proofs.put_back.put_notes.Goals as goal

abbrev notes_in : List (Vec Note) → List Note
notes_in rows = flat_map (λ row. row.items) rows

pub put_rows-requires-clause-notes : goal.put_rows-requires-clause-notes
put_rows-requires-clause-notes c =
    let full = notes_in c.notes.inside.full.items in
    let last = c.notes.inside.last.items in
    subst (λ rows. All (IsOpenNote (walk_of c.args.input.now)) (notes_in rows))
    (sym c.as_slice.ensures.value)
    (front_notes (IsOpenNote (walk_of c.args.input.now)) full last
    (subst (All (IsOpenNote (walk_of c.args.input.now))) (sym c.notes.view_is)
    c.requires.notes))

pub put_row-requires-clause-notes : goal.put_row-requires-clause-notes
put_row-requires-clause-notes c =
    let full = notes_in c.notes.inside.full.items in
    let last = c.notes.inside.last.items in
    subst (All (IsOpenNote (walk_of c.args.input.now))) (sym c.as_slice-2.ensures.value)
    (last_notes (IsOpenNote (walk_of c.args.input.now)) full last
    (subst (All (IsOpenNote (walk_of c.args.input.now))) (sym c.notes.view_is)
    c.requires.notes))

pub returns : goal.returns
returns c = record {
  put = λ done p.
      let last = c.notes.inside.last.items in
      let full = notes_in c.as_slice.result.now in
      subst (λ xs. OnOk c.put_row.result
      (ArePutBack (walk_of c.args.input.now) xs c.put_row.new.noted c.put_row.new.swept))
      (ap (λ ys. (done ++ full) ++ ys) c.as_slice-2.ensures.value ∙ append_assoc done full last
      ∙ ap (λ xs. done ++ xs) (ap (λ rows. notes_in rows ++ last) c.as_slice.ensures.value
      ∙ c.notes.view_is))
      (c.put_row.ensures.put (done ++ full) (c.in_ok-put_rows.ensures.put done p));
}
