use Rattle.input_output.proofs.StoreLemmas.{files_after_set, files_after_push}
use Rattle.input_output.proofs.mem_store.put_file.Goals as goal

pub returns-in-Some-clause-ok : goal.returns-in-Some-clause-ok
returns-in-Some-clause-ok c =
    rw (← c.in_ok-copy_of.ensures, ← c.in_ok-copy_of-2.ensures)
    (files_after_set c.args.files.now.items _ c.in-Some.place
    (rw (c.in_ok-copy_of.ensures, ← c.as_slice.ensures.value) c.in-Some.ensures.some))

pub returns-in_ok-push-in-None-clause-ok : goal.returns-in_ok-push-in-None-clause-ok
returns-in_ok-push-in-None-clause-ok c =
    rw (c.in_ok-push-in-None.ensures.items, ← c.in_ok-copy_of.ensures, ← c.in_ok-copy_of-2.ensures)
    (files_after_push c.args.files.now.items
    (record { name = c.in_ok-copy_of.field-0; bytes = c.in_ok-copy_of-2.field-0 })
    (rw (c.in_ok-copy_of.ensures, ← c.as_slice.ensures.value) c.in-None.ensures.none))
