use Rattle.std.proofs.Common.{sym}
use Rattle.relabel_core.specs.Walked.{walk_of}
use Rattle.relabel_core.proofs.CoveredLemmas.{left_out}
use Rattle.relabel_core.proofs.SweptLemmas.{none_made, passing_by}
use Rattle.relabel_core.proofs.directories.sweep_unskipped.Goals as goal

pub renewed_digest-renewed-requires-clause-skipped :
    goal.renewed_digest-renewed-requires-clause-skipped
renewed_digest-renewed-requires-clause-skipped c =
    sym (left_out (walk_of c.args.input.now) c.requires.fit.by_path c.args.at.entry c.args.at.end
    c.requires.swept.covered_are c.requires.entry c.requires.outside c.requires.over)

pub keep_renewed-requires : goal.keep_renewed-requires
keep_renewed-requires c = none_made (walk_of c.args.input.now) c.args.at.entry c.args.at.end _ _
    c.requires.swept

pub returns : goal.returns
returns c =
    passing_by (walk_of c.args.input.now) c.requires.fit.by_path c.args.at.entry c.args.at.end
    c.args.swept.now.skips.items c.push.new.self.items
    c.args.swept.now.made c.keep_renewed.new.made c.renewed_digest-renewed.result c.requires.swept
    c.requires.entry c.requires.outside c.requires.over
    c.renewed_digest-renewed.ensures c.in_ok-keep_renewed.ensures c.in_ok-push.ensures.items
