-- What reading a whole source means.
use Rattle.std.specs.Prelude.{◌≡◌, ℕ, ◌+◌, ◌≤◌, List, length, Option, Result, Ok, Err, IfSome}
use Rattle.std.specs.Io.KnownBytes.{Consumes, IsAtEnd}
use Rattle.input_output.specs.declared.reading.AllFault.{AllFault}
use Rattle.input_output.specs.declared.reading.AllFault.TheVariants as fault
use Rattle.input_output.specs.Source.{Rose}

-- what an answer says of the bytes that are left
abbrev pub AllTaken : Option (List ℕ) → Option (List ℕ) → ℕ → Result (List ℕ) AllFault → Type 0
AllTaken old new limit (Ok bytes) =
    Consumes old new bytes × IfSome old (λ _. IsAtEnd new) × (length bytes ≤ limit)
AllTaken old new limit (Err fault.TooLong) =
    (taken : List ℕ) × Consumes old new taken × (length taken ≡ limit + 1)
AllTaken old new limit (Err other) = (taken : List ℕ) × Consumes old new taken

-- what an answer says of the count of faults
abbrev pub AllCounts : ℕ → ℕ → Result (List ℕ) AllFault → Type 0
AllCounts before now (Err fault.ReadFault) = (before ≤ now) × Rose before now
AllCounts before now other = now ≡ before
