use Rattle.std.proofs.Common.{◌≡◌, arith, length, ◌-◌, ◌∙◌, ap, ℕ}
use Rattle.std.specs.Prelude.{nat_lt}
use Rattle.pattern_syntax.specs.declared.node.Node.TheVariants.{Byte}
use Rattle.pattern_syntax.proofs.StartLemmas.{parts_several, start_single}
use Rattle.pattern_syntax.proofs.pattern.have_sides.Goals as goal

pub returns-then-nodes-gt0 : goal.returns-then-nodes-gt0
returns-then-nodes-gt0 c = c.is_either.ensures
    ∙ parts_several c.args.start.now c.args.nodes.now (length c.args.nodes.now - 1) (Byte 0)
    c.requires (omega arith)

pub returns-else-nodes-gt0 : goal.returns-else-nodes-gt0
returns-else-nodes-gt0 c =
    let none : length c.args.nodes.now ≡ 0 = omega arith in
    ap (λ (n : ℕ). nat_lt 0 n) none ∙ start_single c.args.start.now c.args.nodes.now none
