use Rattle.std.proofs.Common.{◌∙◌, sym, arith}
use Rattle.label_base.proofs.EscapeLemmas.{reads_back, escaped_plain}
use Rattle.label_base.proofs.escape.write_escaped.Goals as goal

pub returns-then-is_plain_text-clause-ok : goal.returns-then-is_plain_text-clause-ok
returns-then-is_plain_text-clause-ok c =
    rw (escaped_plain c.args.bytes.now (sym c.is_plain_text.ensures ∙ c.if-is_plain_text.true))
    c.push.ensures.ok

pub returns-then-is_plain_text-clause-reads_back : goal.returns-then-is_plain_text-clause-reads_back
returns-then-is_plain_text-clause-reads_back c =
    reads_back c.args.bytes.now (λ k. omega (arith, c.type_inv.bytes k))

pub returns-else-is_plain_text-clause-reads_back : goal.returns-else-is_plain_text-clause-reads_back
returns-else-is_plain_text-clause-reads_back c =
    reads_back c.args.bytes.now (λ k. omega (arith, c.type_inv.bytes k))
