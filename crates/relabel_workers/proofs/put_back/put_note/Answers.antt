use Rattle.std.proofs.Common.{rules, ◌<◌, ◌^◌, length, arith}
use Rattle.std.proofs.lemmas.Result.{on_ok_weaker}
use Rattle.relabel_core.specs.Walked.{walk_of}
use Rattle.relabel_workers.proofs.PutLemmas.{few_more, put_by, put_over}
use Rattle.relabel_workers.proofs.put_back.put_note.Goals as goal

pub put_decided-requires : goal.put_decided-requires
put_decided-requires c = record {
  few = (let fits : c.len.result < 2 ^ 32 = search rules in
      few_more c.args.note.now.decided (length c.args.input.now.rules.now.rules)
      c.requires.note.noted.in_range (omega (arith, c.len.ensures, fits)));
}

pub returns-then-note : goal.returns-then-note
returns-then-note c = record {
  put = λ done p.
      put_over (walk_of c.args.input.now) c.requires.fit.by_path done c.args.note.now
      c.args.noted.now c.put_decided.new.self c.args.swept.now c.put_skipped.new.swept p
      c.requires.note c.put_decided.ensures.decided c.put_decided.ensures.winners c.if-note.true
      c.put_skipped.ensures.skips c.put_skipped.ensures.made;
}

pub returns : goal.returns
returns c = record {
  put = λ done p. on_ok_weaker c.put_digest.result
      (put_by (walk_of c.args.input.now) c.requires.fit.by_path done c.args.note.now
      c.args.noted.now c.put_decided.new.self c.args.swept.now c.put_digest.new.swept p
      c.requires.note c.put_decided.ensures.decided c.put_decided.ensures.winners c.if-note.false
      c.put_digest.ensures.skips) c.put_digest.ensures.made;
}
