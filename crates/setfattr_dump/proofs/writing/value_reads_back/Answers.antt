use Rattle.std.proofs.Common.{arith}
use Rattle.setfattr_dump.proofs.Standing.{value_stands}
use Rattle.setfattr_dump.proofs.writing.value_reads_back.Goals as goal

pub returns : goal.returns
returns c = value_stands c.args._key.now c.args._value.now (λ k. omega (arith, c.type_inv._value k))
