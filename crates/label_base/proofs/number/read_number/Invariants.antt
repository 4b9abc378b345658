use Rattle.std.proofs.Common.{◌≡◌, drop}
use Rattle.std.specs.Prelude.{fold, Some}
use Rattle.label_base.specs.Number.{number_of}
use Rattle.label_base.proofs.NumberLemmas.{next_value}
use Rattle.label_base.proofs.number.read_number.Given as goal

abbrev pub invariant-loop-b : goal.invariant-loop-b
invariant-loop-b l = fold next_value (Some l.value) (drop l.b-index l.bytes) ≡ number_of l.bytes
