-- What calls of a sink do to the bytes that were written, where it tells them, and to its count of
-- faults.
use Rattle.std.specs.Prelude.{◌≡◌, ℕ, ◌≤◌, ◌<◌, min, List, ◌++◌, length, take, Option}
use Rattle.std.specs.Prelude.{if◌then◌else◌}
use Rattle.std.specs.Io.KnownBytes.{Keeps, Appends}
use Rattle.input_output.specs.Source.{Rose, next_count, is_listed}
use Rattle.input_output.specs.declared.sink.Put.{Put}
use Rattle.input_output.specs.declared.sink.Put.TheVariants.{Took, Failed}

-- what an answer says of the bytes that were written
abbrev pub Puts : Option (List ℕ) → Option (List ℕ) → Put → List ℕ → Type 0
Puts old new (Took n) bytes = (0 < n) × (n ≤ length bytes) × Appends old new (take n bytes)
Puts old new Failed bytes = Keeps old new

-- what an answer says of the count of faults
abbrev pub PutCounts : ℕ → ℕ → Put → Type 0
PutCounts before now Failed = (before ≤ now) × Rose before now
PutCounts before now other = now ≡ before

-- some front of the bytes was written
abbrev pub AppendsFront : Option (List ℕ) → Option (List ℕ) → List ℕ → Type 0
AppendsFront old new bytes = (n : ℕ) × Appends old new (take n bytes)

-- a sink in memory: what was written, the greatest piece, the calls that are to fail, the calls so
-- far and those that failed
pub record MemSinkValue : Type 0 where
  pub written : List ℕ
  pub piece : ℕ
  pub failing : List ℕ
  pub calls : ℕ
  pub faults : ℕ

-- a listed call fails, and any other takes as much as the piece and the bytes allow
abbrev pub mem_put : MemSinkValue → ℕ → Put
mem_put s room = if is_listed s.failing s.calls then Failed else Took (min s.piece room)

-- the answer is that one, or a failure for want of memory
abbrev pub IsPut : Put → Put → Type 0
IsPut (Took n) meant = Took n ≡ meant
IsPut Failed meant = Unit {0}

abbrev pub sink_after : MemSinkValue → List ℕ → Put → MemSinkValue
sink_after s bytes (Took n) =
    record s { written = s.written ++ take n bytes; calls = next_count s.calls }
sink_after s bytes Failed = record s { calls = next_count s.calls; faults = next_count s.faults }
