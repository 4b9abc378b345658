use Rattle.std.proofs.Common.{arith, ap, ◌∙◌, List, refl, length}
use Rattle.pattern_syntax.specs.Tree.{Tree}
use Rattle.pattern_syntax.specs.Nodes.{after_node}
use Rattle.pattern_syntax.specs.Reading.{Reading}
use Rattle.pattern_syntax.specs.Building.{IsBuilderOf}
use Rattle.pattern_syntax.specs.declared.node.Node.TheVariants.{Both}
use Rattle.pattern_syntax.proofs.BuildingLemmas.{repeat_stands}
use Rattle.pattern_syntax.proofs.builder.Builder.repeat.Goals as goal

pub returns-in_ok-join-in-Some : goal.returns-in_ok-join-in-Some
returns-in_ok-join-in-Some c = λ (read : Reading) (s : IsBuilderOf c.args.self.now read).
    repeat_stands c.args.self.now _ read.level.sides read.level.sequence read.level.piece read.outer
    c.args.least c.args.most c.in-Some.piece c.args.at s c.in-Some.is
    (c.in_ok-join-in-Some.ensures.trees ∙ ap (λ (l : List Tree). after_node Both l)
    c.in_ok-put-in-Some.ensures.trees)
    (rw (
      c.sum.ensures,
      c.product-count.ensures,
      c.factor.ensures,
      c.in_ok-join-in-Some.ensures.level,
      c.in_ok-put-in-Some.ensures.level,
    ) refl)
    (rw (c.in_ok-join-in-Some.ensures.outer, c.in_ok-put-in-Some.ensures.outer) refl)
    (let n = c.in_ok-join-in-Some.ensures.size in let m = c.in_ok-put-in-Some.ensures.size in
    let k = ap length c.in_ok-put-in-Some.ensures.start in omega (arith, n, m, k))
    (c.in_ok-join-in-Some.ensures.led (c.in_ok-put-in-Some.ensures.led refl s.led))
