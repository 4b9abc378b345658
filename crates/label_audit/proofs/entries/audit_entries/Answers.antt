use Rattle.std.proofs.Common.{◌<◌, refl, arith}
use Rattle.std.proofs.lemmas.List.{length-map}
use Rattle.label_base.specs.Bounded.{all_numbers}
use Rattle.label_base.proofs.BoundedLemmas.{count_numbers}
use Rattle.relabel_core.specs.Walk.{walk_count}
use Rattle.relabel_core.specs.Walked.{walk_of}
use Rattle.tree_model.proofs.LabelledLemmas.{mapped_at}
use Rattle.relabel_core.proofs.CoveredLemmas.{covers_none}
use Rattle.label_audit.specs.Compared.{next_behind, behind_of}
use Rattle.label_audit.specs.Pieces.{dump_pieces, entry_piece, entry_pieces, section_piece}
use Rattle.label_audit.proofs.CompareLemmas.{all_compared, next_compared}
use Rattle.label_audit.proofs.entries.audit_entries.Goals as goal

pub entries-init : goal.entries-init
entries-init c = record {
  ready = c.requires.ready;
  covers = covers_none (walk_of c.args.input.now);
  ahead = c.requires.ahead;
  flags = c.requires.flags;
  report = λ rest. refl;
  dump = λ rest. refl;
}

pub entries-preserved : goal.entries-preserved
entries-preserved c =
    let w = walk_of c.args.input.now in
    let e = c.entries.entry in
    let here : e < walk_count w = omega (arith, c.entries-test.true, c.len-entry-end.ensures) in
    record {
      ready = c.in_ok-end.ensures.ready;
      covers = c.in_ok-end.ensures.covers;
      ahead = c.in_ok-end.ensures.ahead;
      flags = c.in_ok-end.ensures.flags;
      report = next_compared (next_behind c.entries.audit.report.file)
          (next_behind c.audit_entry.new.audit.report.file) _ (entry_pieces w) e (entry_piece w e)
          (omega (
            arith,
            here,
            length-map (all_numbers (walk_count w)) (entry_piece w),
            count_numbers (walk_count w),
          ))
          (mapped_at (entry_piece w) (walk_count w) e (entry_piece w e) here)
          c.entries.invariant.report c.in_ok-end.ensures.report;
      dump = next_compared (behind_of c.entries.audit.dump) (behind_of c.audit_entry.new.audit.dump)
          _ (dump_pieces w) e (section_piece w e)
          (omega (
            arith,
            here,
            length-map (all_numbers (walk_count w)) (section_piece w),
            count_numbers (walk_count w),
          ))
          (mapped_at (section_piece w) (walk_count w) e (section_piece w e) here)
          c.entries.invariant.dump c.in_ok-end.ensures.dump;
    }

pub returns-clause-report : goal.returns-clause-report
returns-clause-report c =
    let w = walk_of c.args.input.now in
    all_compared (next_behind c.entries.audit.report.file) _ (entry_pieces w) c.entries.entry
    (omega (
      arith,
      c.entries-test.false,
      c.len-entry-end.ensures,
      length-map
          (all_numbers (walk_count w)) (entry_piece w),
      count_numbers (walk_count w),
    ))
    c.entries.invariant.report

pub returns-clause-dump : goal.returns-clause-dump
returns-clause-dump c =
    let w = walk_of c.args.input.now in
    all_compared (behind_of c.entries.audit.dump) _ (dump_pieces w) c.entries.entry
    (omega (
      arith,
      c.entries-test.false,
      c.len-entry-end.ensures,
      length-map
          (all_numbers (walk_count w)) (section_piece w),
      count_numbers (walk_count w),
    ))
    c.entries.invariant.dump
