use Rattle.std.proofs.Common.{◌≡◌, ◌++◌, drop}
use Rattle.pattern_syntax.specs.Parts.{start_nodes}
use Rattle.pattern_syntax.proofs.builder.push_bytes.Given as goal

abbrev pub invariant-bytes : goal.invariant-bytes
invariant-bytes l =
    l.nodes.items ++ start_nodes (drop l.b-index l.bytes)
    ≡ l.fn.nodes.items ++ start_nodes l.bytes
