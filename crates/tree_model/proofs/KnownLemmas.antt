-- Records that are numbered one after the other.
use Rattle.std.proofs.Common.{◌≡◌, ◌∙◌, ap, ℕ, ◌+◌, ◌-◌, ◌<◌, List, [], ◌∷◌, ◌++◌, length, take}
use Rattle.std.proofs.Common.{get_or, arith}
use Rattle.std.proofs.lemmas.Option.{get_or_from_slice_get}
use Rattle.std.proofs.lemmas.List.{get_or_default}
use Rattle.find_records.specs.Record.{Record}
use Rattle.tree_model.specs.Numbered.{Numbered, numbered_from}
use Rattle.std.specs.Prelude.{Some, slice_get}
use Rattle.tree_model.specs.Extents.{entry_at}
use Rattle.find_records.specs.Places.{no_record}
use Rattle.tree_model.proofs.PlaceLemmas.{numbered_next}
use Rattle.tree_model.specs.Known.{with_number}

pub next_numbered : (records : List Record) (k : ℕ) (all new : List Numbered) → k < length records
    → all ≡ numbered_from 1 (take k records)
    → new ≡ all ++ with_number records (k + 1) ∷ [] → new ≡ numbered_from 1 (take (k + 1) records)
next_numbered records k all new h e f =
    let r = get_or records k no_record in
    let same : k + 1 - 1 ≡ k = omega arith in
    numbered_next records k k r all new h (get_or_default records k no_record r h) (omega arith) e
    (f ∙ ap (λ j. all ++ record { number = k + 1; item = get_or records j no_record } ∷ []) same)

-- an entry that was read is the one with that index
pub entry_is : (entries : List Record) (e : ℕ) (r : Record) → slice_get entries e ≡ Some r
    → entry_at entries e ≡ r
entry_is entries e r h = get_or_from_slice_get entries e r no_record h
