use Rattle.std.proofs.Common.{arith}
use Rattle.relabel_core.specs.Walked.{walk_of}
use Rattle.relabel_core.proofs.SweptLemmas.{done, start}
use Rattle.relabel_core.proofs.directories.sweep_all.Goals as goal

pub entries-init : goal.entries-init
entries-init c = record {
  own = c.requires.own;
  swept = start (walk_of c.args.input.now) _ _ c.none-swept.ensures.skips
      c.none-swept.ensures.made;
}

pub returns-clause-swept : goal.returns-clause-swept
returns-clause-swept c =
    done (walk_of c.args.input.now) c.entries.entry c.entries.end _ _
    (omega (arith, c.entries-test.false, c.len-entry-end.ensures)) c.entries.invariant.swept
