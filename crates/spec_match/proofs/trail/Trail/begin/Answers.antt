use Rattle.std.proofs.Common.{◌-◌, arith, drop, length, length-drop, take}
use Rattle.std.proofs.lemmas.List.{take_all}
use Rattle.spec_match.proofs.TrailLemmas.{front_taken}
use Rattle.spec_match.proofs.trail.Trail.begin.Goals as goal

pub returns-clause-same : goal.returns-clause-same
returns-clause-same c =
    let text = c.args.text.now in
    let start = c.args.start in
    front_taken c.args.self.now.text.items text c.truncate.new.self.items c.add_front.new.to.items
    (take (length text - start) (drop start text)) start c.requires.own c.requires.text
    c.requires.same
    c.truncate.ensures.items
    (take_all (length text - start) (drop start text) (omega (arith, length-drop start text)))
    c.add_front.ensures.grown c.add_front.ensures.front
