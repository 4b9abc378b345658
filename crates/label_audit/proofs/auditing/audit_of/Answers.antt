use Rattle.relabel_core.specs.Walked.{walk_of}
use Rattle.label_audit.proofs.CompareLemmas.{none_raised}
use Rattle.label_audit.proofs.auditing.audit_of.Goals as goal

pub returns : goal.returns
returns c =
    let w = walk_of c.args.input.now in
    record {
      report_is = c.new.ensures;
      dump_is = c.dump_of.ensures;
      ahead = c.new-3.ensures w;
      flags = none_raised w c.len.result c.in_ok-flags.flags.items c.len.ensures
          c.in_ok-flags.ensures;
      ready = c.in_ok-lookups.ensures;
    }
