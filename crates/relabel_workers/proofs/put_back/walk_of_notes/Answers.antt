use Rattle.std.proofs.Common.{sym, subst}
use Rattle.relabel_core.specs.Walked.{AreWalkAnswers, walk_of}
use Rattle.relabel_workers.proofs.PutLemmas.{all_put}
use Rattle.relabel_workers.proofs.SkipLemmas.{put_found, put_passed}
use Rattle.relabel_workers.proofs.put_back.walk_of_notes.Goals as goal

pub put_notes-requires-clause-notes : goal.put_notes-requires-clause-notes
put_notes-requires-clause-notes c = c.requires.notes.notes_are

pub put_winners-requires-clause-room : goal.put_winners-requires-clause-room
put_winners-requires-clause-room c =
    (all_put (walk_of c.args.input.now) c.args.notes.now c.in_ok-noted.noted c.put_notes.new.noted
    c.in_ok-swept.swept c.put_notes.new.swept c.len.result
    c.in_ok-noted.ensures.room c.in_ok-noted.ensures.decided c.in_ok-swept.ensures.skips
    c.len.ensures
    c.in_ok-swept.ensures.made c.in_ok-put_notes.ensures.put).winners_room

pub of_noted-requires-clause-swept : goal.of_noted-requires-clause-swept
of_noted-requires-clause-swept c =
    put_passed (walk_of c.args.input.now) c.requires.fit.by_path c.args.notes.now
    c.put_notes.new.noted c.put_notes.new.swept c.requires.notes
    (all_put (walk_of c.args.input.now) c.args.notes.now c.in_ok-noted.noted c.put_notes.new.noted
    c.in_ok-swept.swept c.put_notes.new.swept c.len.result
    c.in_ok-noted.ensures.room c.in_ok-noted.ensures.decided c.in_ok-swept.ensures.skips
    c.len.ensures
    c.in_ok-swept.ensures.made c.in_ok-put_notes.ensures.put)

pub of_noted-requires-clause-found : goal.of_noted-requires-clause-found
of_noted-requires-clause-found c =
    subst (λ decided. AreWalkAnswers (walk_of c.args.input.now) decided
    c.put_winners.new.noted.winners.items) (sym c.put_winners.ensures.decided)
    (put_found (walk_of c.args.input.now) c.requires.fit.by_path c.args.notes.now
    c.put_notes.new.noted c.put_notes.new.swept c.put_winners.new.noted.winners.items
    c.requires.notes
    (all_put (walk_of c.args.input.now) c.args.notes.now c.in_ok-noted.noted c.put_notes.new.noted
    c.in_ok-swept.swept c.put_notes.new.swept c.len.result
    c.in_ok-noted.ensures.room c.in_ok-noted.ensures.decided c.in_ok-swept.ensures.skips
    c.len.ensures
    c.in_ok-swept.ensures.made c.in_ok-put_notes.ensures.put)
    c.put_winners.ensures.winners)
