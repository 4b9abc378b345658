use Rattle.std.proofs.Common.{arith}
use Rattle.label_base.proofs.EscapeLemmas.{reads_back}
use Rattle.setfattr_dump.proofs.writing.escapes_read_back.Goals as goal

pub returns : goal.returns
returns c = reads_back c.args._bytes.now (λ k. omega (arith, c.type_inv._bytes k))
