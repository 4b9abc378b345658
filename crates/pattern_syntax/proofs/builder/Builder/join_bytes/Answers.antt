use Rattle.std.proofs.Common.{arith, ◌≡◌}
use Rattle.std.specs.Prelude.{None}
use Rattle.pattern_syntax.specs.Parts.{lead_of}
use Rattle.pattern_syntax.proofs.StartLemmas.{bytes_joined, trees_extended, size_extended}
use Rattle.pattern_syntax.proofs.StartLemmas.{led_extended}
use Rattle.pattern_syntax.proofs.builder.Builder.join_bytes.Goals as goal

pub returns-in_ok-push-clause-trees : goal.returns-in_ok-push-clause-trees
returns-in_ok-push-clause-trees c =
    bytes_joined c.args.self.now.start c.push.new.self c.args.bytes.now c.args.self.now.nodes.items
    (omega arith) c.in_ok-push.ensures.ok

pub returns-in_ok-push_bytes-clause-size : goal.returns-in_ok-push_bytes-clause-size
returns-in_ok-push_bytes-clause-size c =
    let n = size_extended c.args.bytes.now c.push_bytes.new.nodes.items
    c.args.self.now.nodes.items c.in_ok-push_bytes.ensures in
    omega (arith, n)

pub returns-in_ok-push_bytes-clause-trees : goal.returns-in_ok-push_bytes-clause-trees
returns-in_ok-push_bytes-clause-trees c =
    trees_extended c.args.self.now.start c.args.bytes.now c.push_bytes.new.nodes.items
    c.args.self.now.nodes.items c.in_ok-push_bytes.ensures

pub returns-in_ok-push_bytes-clause-led : goal.returns-in_ok-push_bytes-clause-led
returns-in_ok-push_bytes-clause-led c = λ (h : lead_of c.args.self.now.nodes.items ≡ None).
    led_extended c.push_bytes.new.nodes.items c.args.self.now.nodes.items c.args.bytes.now
    c.in_ok-push_bytes.ensures (λ e. absurd (omega (arith, e))) h
