use Rattle.relabel_core.specs.Walked.{walk_of}
use Rattle.label_audit.proofs.SkipLemmas.{passes_below}
use Rattle.label_audit.proofs.skipping.skip_entry.Goals as goal

pub returns-then-at-clause-found : goal.returns-then-at-clause-found
returns-then-at-clause-found c =
    passes_below (walk_of c.args.input.now) c.requires.fit.by_path c.args.at.entry c.args.at.end
    c.requires.covers c.requires.entry c.if-at.true
