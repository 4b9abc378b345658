-- What calls of a source do to the bytes that it has left, where it tells them, and to its count of
-- faults.
use Rattle.std.specs.Prelude.{◌≡◌, ℕ, ◌+◌, ◌≤◌, ◌<◌, ◌==◌, min, Bool, List, length, take, drop}
use Rattle.std.specs.Prelude.{Option, if◌then◌else◌}
use Rattle.std.specs.List.{list_any}
use Rattle.std.specs.Io.KnownBytes.{Keeps, Consumes, IsAtEnd}
use Rattle.input_output.specs.declared.source.TheConstants.{LAST_COUNT}
use Rattle.input_output.specs.declared.source.Take.{Take}
use Rattle.input_output.specs.declared.source.Take.TheVariants.{Got, End, Failed}

-- one more, but for the last value of a count
abbrev pub next_count : ℕ → ℕ
next_count count = min (count + 1) LAST_COUNT

-- a count is greater, or stands at its last value
abbrev pub Rose : ℕ → ℕ → Type 0
Rose before now = next_count before ≤ now

-- what an answer says of the bytes that are left
abbrev pub TakesInput : Option (List ℕ) → Option (List ℕ) → Take → List ℕ → Type 0
TakesInput old new (Got n) buf = (0 < n) × (n ≤ length buf) × Consumes old new (take n buf)
TakesInput old new End buf = IsAtEnd old × Keeps old new
TakesInput old new Failed buf = Keeps old new

-- what an answer says of the count of faults
abbrev pub TakeCounts : ℕ → ℕ → Take → Type 0
TakeCounts before now Failed = (before ≤ now) × Rose before now
TakeCounts before now other = now ≡ before

-- the number of the next call is among those that are to fail
abbrev pub is_listed : List ℕ → ℕ → Bool
is_listed failing calls = list_any (λ number. number == next_count calls) failing

-- a source in memory that never fails: what is left, and the greatest piece
pub record SureSourceValue : Type 0 where
  pub left : List ℕ
  pub piece : ℕ

-- as much as the piece, the bytes and the room allow
abbrev pub sure_take : SureSourceValue → ℕ → Take
sure_take s room = if length s.left == 0 then End else Got (min (min s.piece (length s.left)) room)

abbrev pub sure_after : SureSourceValue → Take → SureSourceValue
sure_after s (Got n) = record s { left = drop n s.left }
sure_after s other = s

-- a source in memory: what is left, the greatest piece, the calls that are to fail, the calls so
-- far and those that failed
pub record MemSourceValue : Type 0 where
  pub left : List ℕ
  pub piece : ℕ
  pub failing : List ℕ
  pub calls : ℕ
  pub faults : ℕ

abbrev pub sure_of : MemSourceValue → SureSourceValue
sure_of s = record { left = s.left; piece = s.piece }

-- a listed call fails, and any other answers as a source that never fails
abbrev pub mem_take : MemSourceValue → ℕ → Take
mem_take s room = if is_listed s.failing s.calls then Failed else sure_take (sure_of s) room

abbrev pub mem_after : MemSourceValue → Take → MemSourceValue
mem_after s (Got n) = record s { left = drop n s.left; calls = next_count s.calls }
mem_after s End = record s { calls = next_count s.calls }
mem_after s Failed = record s { calls = next_count s.calls; faults = next_count s.faults }
