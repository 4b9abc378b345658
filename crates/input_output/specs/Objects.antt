-- What the objects over readers and writers tell of their content.
use Rattle.std.specs.Prelude.{ℕ, List, Option}
use Rattle.input_output.specs.declared.sink.WriteSink.{WriteSink}
use Rattle.input_output.specs.declared.source.ReadSource.{ReadSource}

-- what a source has left: what its reader has
abbrev pub reader_left : {R : Type 0} → (R → Option (List ℕ)) → ReadSource R → Option (List ℕ)
reader_left remaining source = remaining source.inner

abbrev pub reader_faults : {R : Type 0} → ReadSource R → ℕ
reader_faults source = source.faults

-- what was written to a sink: what its writer holds
abbrev pub writer_written : {W : Type 0} → (W → Option (List ℕ)) → WriteSink W → Option (List ℕ)
writer_written contents sink = contents sink.inner

abbrev pub writer_faults : {W : Type 0} → WriteSink W → ℕ
writer_faults sink = sink.faults
