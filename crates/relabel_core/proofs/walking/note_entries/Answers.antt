use Rattle.std.proofs.Common.{◌≡◌, arith, length}
use Rattle.relabel_core.specs.Walk.{walk_count}
use Rattle.relabel_core.specs.Walked.{walk_of}
use Rattle.relabel_core.proofs.NotedLemmas.{all_noted, more_walked, within_walked}
use Rattle.relabel_core.proofs.walking.note_entries.Goals as goal

pub returns-in_err-found-clause-count : goal.returns-in_err-found-clause-count
returns-in_err-found-clause-count g c =
    within_walked (walk_of c.args.input.now) c.entries.entry (length c.args.input.now.tree.now)
    c.entries.steps c.decide_entry.new.steps c.args.steps.now
    (omega (arith, c.entries-test.true, c.len-entry-end.ensures)) c.entries.invariant.count
    c.decide_entry.ensures.count

pub entries-preserved : goal.entries-preserved
entries-preserved g c = record {
  own = c.decide_entry.ensures.own;
  noted = c.note_entry.ensures.noted;
  count = omega (
    arith,
    more_walked (walk_of c.args.input.now) c.entries.entry,
    c.entries.invariant.count,
    c.decide_entry.ensures.count,
  );
}

pub returns-clause-found : goal.returns-clause-found
returns-clause-found g c =
    let w = walk_of c.args.input.now in
    let all : c.entries.entry ≡ walk_count w =
    omega (arith, c.entries-test.false, c.len-entry-end.ensures) in
    all_noted w c.entries.entry c.entries.noted.decided.items c.entries.noted.winners.items all
    c.entries.invariant.noted
