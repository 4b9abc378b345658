use Rattle.std.proofs.Common.{arith, ap, ◌∙◌, refl, ◌∷◌, List, length}
use Rattle.pattern_syntax.specs.Tree.{Tree, Nothing}
use Rattle.pattern_syntax.specs.Reading.{Reading}
use Rattle.pattern_syntax.specs.Building.{IsBuilderOf}
use Rattle.pattern_syntax.proofs.BuildingLemmas.{outer_length, is_deep, open_stands}
use Rattle.pattern_syntax.proofs.builder.Builder.open.Goals as goal

pub returns-then-len : goal.returns-then-len
returns-then-len c = λ (read : Reading) (s : IsBuilderOf c.args.self.now read).
    let e = ap length s.outer ∙ outer_length read.outer in
    is_deep (length read.outer) c.args.at (omega (arith, e))

pub returns : goal.returns
returns c = λ (read : Reading) (s : IsBuilderOf c.args.self.now read).
    let ends = c.in_ok-count.ensures.ends read s in
    open_stands c.args.self.now c.enter.new.self read c.in_ok-count.count c.args.at s (omega arith)
    ends.counted
    (rw (c.in_ok-enter.ensures.nodes, c.in_ok-enter.ensures.start) (c.in_ok-put.ensures.trees
    ∙ ap (λ (l : List Tree). Nothing ∷ l) ends.trees))
    c.in_ok-enter.ensures.level
    (rw (
      c.in_ok-enter.ensures.outer,
      c.in_ok-put.ensures.outer,
      c.in_ok-put.ensures.level,
      c.in_ok-count.ensures.outer,
      c.in_ok-count.ensures.level,
    ) refl)
    (rw (c.in_ok-enter.ensures.nodes, c.in_ok-enter.ensures.start)
    (let n = c.in_ok-put.ensures.size in let m = ends.size in
    let k = ap length c.in_ok-put.ensures.start in omega (arith, n, m, k)))
    (rw c.in_ok-enter.ensures.nodes (c.in_ok-put.ensures.led refl ends.led))
