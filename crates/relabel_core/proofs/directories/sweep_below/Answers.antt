use Rattle.relabel_core.specs.Walked.{walk_of}
use Rattle.relabel_core.proofs.SweptLemmas.{passing_below}
use Rattle.relabel_core.proofs.directories.sweep_below.Goals as goal

pub returns : goal.returns
returns c =
    passing_below (walk_of c.args.input.now) c.requires.fit.by_path c.args.at.entry c.args.at.end
    c.args.swept.now.skips.items c.push.new.self.items c.args.swept.now.made
    c.requires.swept c.requires.entry c.requires.below c.in_ok-push.ensures.items
