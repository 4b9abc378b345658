use Rattle.std.proofs.Common.{◌∙◌, sym}
use Rattle.relabel_core.specs.Walked.{walk_of}
use Rattle.label_audit.proofs.GroupLemmas.{none_wins}
use Rattle.label_audit.proofs.looking.winner_unless.Goals as goal

pub returns-then-skipped-clause-found : goal.returns-then-skipped-clause-found
returns-then-skipped-clause-found c =
    none_wins (walk_of c.args.input.now) c.args.own.entry c.requires.entry
    (sym c.requires.skipped ∙ c.if-skipped.true)
