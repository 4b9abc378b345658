use Rattle.pattern_syntax.specs.declared.node.Node.TheVariants.{Nothing}
use Rattle.pattern_match.proofs.Zeros.{noted_zero, last_start}
use Rattle.pattern_match.proofs.skipping.note_repeat.Goals as goal

pub returns-in-Some : goal.returns-in-Some
returns-in-Some c =
    let f = last_start c.args.starts.now c.in-Some.start.now c.in-Some.ensures.value in
    noted_zero c.args.nodes.now c.args.starts.now c.args.skips.now.items f.0 c.in-Some.start.now
    c.args.at Nothing c.requires.within c.requires.zero f.1 c.requires.noted
