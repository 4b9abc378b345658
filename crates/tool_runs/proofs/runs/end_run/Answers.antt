use Rattle.std.proofs.Common.{ap, inl, inr, refl, subst, List}
use Rattle.std.specs.Prelude.{Ok, Err}
use Rattle.input_output.specs.declared.store.SaveFault.TheVariants as save
use Rattle.file_roles.specs.declared.list.NamedFile.{NamedFile}
use Rattle.run_faults.specs.Faults.{fault_line}
use Rattle.run_endings.specs.Endings.{LineOrFront}
use Rattle.tool_runs.specs.Outside.{store_seen}
use Rattle.tool_runs.proofs.PartLemmas.{never_read}
use Rattle.tool_runs.proofs.runs.end_run.Goals as goal

pub returns-in-Err : goal.returns-in-Err
returns-in-Err g c =
    let asked = c.in-Err.ensures in
    inl (record {
      refusal = c.in-Err.refusal;
      given = asked.meant;
      of_input = asked.kinds;
      no_read_failed = never_read c.in-Err.refusal (asked.counts 0);
      cause_is = c.refuse.ensures.cause;
      untouched = refl;
      line = subst (λ (l : List NamedFile).
          LineOrFront g.O.Sink.written g.O.Sink.faults c.args.out.now c.refuse.new.out
          (fault_line l c.refuse.result)) c.requires.list c.refuse.ensures.line;
    })

pub returns-in-Ok-save : goal.returns-in-Ok-save
returns-in-Ok-save g c =
    let saved = c.in-Ok-save.ensures in
    let answer = c.in-Ok.ensures in
    inr (record {
      made = c.in-Ok.ending;
      is_meant = answer.meant;
      named = answer.saved;
      saving = Ok tt;
      file_saved = saved.files;
      calls_made = saved.calls;
      unasked = λ none. ap (store_seen g.S.Store) (saved.unasked none);
      write_counts = saved.counts;
      read_counts = saved.reads;
      behind = c.finish.ensures;
    })

pub returns-in-Err-Failed : goal.returns-in-Err-Failed
returns-in-Err-Failed g c =
    let saved = c.in-Err-Failed.ensures in
    let answer = c.in-Ok.ensures in
    inr (record {
      made = c.in-Ok.ending;
      is_meant = answer.meant;
      named = answer.saved;
      saving = Err save.Failed;
      file_saved = rw c.in-Err-Failed.field-0-is at saved.files;
      calls_made = saved.calls;
      unasked = λ none. ap (store_seen g.S.Store) (saved.unasked none);
      write_counts = rw c.in-Err-Failed.field-0-is at saved.counts;
      read_counts = saved.reads;
      behind = record {
        cause_is = c.lose_dump.ensures.cause;
        line = c.lose_dump.ensures.line (g.T.Tool.reads c.args.run.now.tool.now);
      };
    })

pub returns : goal.returns
returns g c =
    let saved = c.in-Err-OutOfMemory.ensures in
    let answer = c.in-Ok.ensures in
    inr (record {
      made = c.in-Ok.ending;
      is_meant = answer.meant;
      named = answer.saved;
      saving = Err save.OutOfMemory;
      file_saved = rw c.in-Err-OutOfMemory.field-0-is at saved.files;
      calls_made = saved.calls;
      unasked = λ none. ap (store_seen g.S.Store) (saved.unasked none);
      write_counts = rw c.in-Err-OutOfMemory.field-0-is at saved.counts;
      read_counts = saved.reads;
      behind = record {
        cause_is = c.give_up.ensures.cause;
        line = c.give_up.ensures.line (g.T.Tool.reads c.args.run.now.tool.now);
      };
    })
