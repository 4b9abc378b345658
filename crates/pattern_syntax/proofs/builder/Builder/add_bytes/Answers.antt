use Rattle.std.proofs.Common.{◌≡◌, ◌∙◌, ◌-◌, ◌∷◌, [], arith, ap, length, List, refl, get_or, true}
use Rattle.std.specs.Prelude.{take}
use Rattle.std.proofs.lemmas.List.{length-take-le}
use Rattle.pattern_syntax.specs.Tree.{Tree, Set}
use Rattle.pattern_syntax.specs.Nodes.{after_nodes}
use Rattle.pattern_syntax.specs.Parts.{start_nodes}
use Rattle.pattern_syntax.specs.Reading.{Reading}
use Rattle.pattern_syntax.specs.Building.{IsBuilderOf}
use Rattle.pattern_syntax.specs.Shape.{are_text_bytes}
use Rattle.pattern_syntax.proofs.StartLemmas.{bytes_stand}
use Rattle.pattern_syntax.proofs.builder.Builder.add_bytes.Goals as goal

pub returns : goal.returns
returns c = λ (read : Reading) (s : IsBuilderOf c.args.self.now read)
    (text : are_text_bytes c.args.bytes.now ≡ true).
    let ends = c.in_ok-count.ensures.ends read s in
    let front = length-take-le (length c.args.bytes.now - 1) c.args.bytes.now (omega arith) in
    let joined = c.in_ok-join_bytes.ensures.size in
    let added = c.in_ok-put.ensures.size in
    let start = ap length c.in_ok-put.ensures.start in
    let size = ends.size in
    bytes_stand c.args.self.now _ read c.args.bytes.now c.in_ok-count.count
    (length c.args.bytes.now - 1) s (omega arith) text ends.counted
    (c.in_ok-put.ensures.trees
    ∙ ap (λ (stack : List Tree).
    Set (get_or c.args.bytes.now (length c.args.bytes.now - 1) 0 ∷ []) ∷ stack)
    (c.in_ok-join_bytes.ensures.trees
    ∙ ap (λ (stack : List Tree).
    after_nodes (start_nodes (take (length c.args.bytes.now - 1) c.args.bytes.now)) stack)
    ends.trees))
    (omega (arith, front, joined, added, start, size))
    (c.in_ok-put.ensures.led refl (c.in_ok-join_bytes.ensures.led ends.led))
    (rw (
      c.sum.ensures,
      c.in_ok-put.ensures.level,
      c.in_ok-join_bytes.ensures.level,
      c.in_ok-count.ensures.level,
    ) refl)
    (rw (c.in_ok-put.ensures.outer, c.in_ok-join_bytes.ensures.outer, c.in_ok-count.ensures.outer)
    refl)
