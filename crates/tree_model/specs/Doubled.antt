-- Doubled records, among records in the order of their paths, and of their numbers where they have
-- one path.
use Rattle.std.specs.Prelude.{ℕ, Bool, nat_le, List, [], ◌∷◌, Option, Some, None, if◌then◌else◌}
use Rattle.tree_model.specs.Entries.{same_path, same_record}
use Rattle.tree_model.specs.Numbered.{Numbered}

abbrev pub same_place : Numbered → Numbered → Bool
same_place a b = same_path a.item.path b.item.path

-- the pair with the lesser second number
abbrev pub lesser : Option (ℕ × ℕ) → ℕ → ℕ → Option (ℕ × ℕ)
lesser None first second = Some (first, second)
lesser (Some least) first second =
    if nat_le least.1 second then Some least else Some (first, second)

-- one more record of the path of the head
abbrev pub doubled_with : Numbered → Numbered → Option (ℕ × ℕ) → Option (ℕ × ℕ)
doubled_with head x best = if same_record head.item x.item then best else lesser best head.number
    x.number

-- all records behind the head, which is the first of its path
abbrev pub doubled_behind : Numbered → Option (ℕ × ℕ) → List Numbered → Option (ℕ × ℕ)
doubled_behind head best [] = best
doubled_behind head best (x ∷ xs) =
    if same_place head x then doubled_behind head (doubled_with head x best) xs else doubled_behind
    x best xs

unfoldable pub doubled_in : List Numbered → Option (ℕ × ℕ)
doubled_in [] = None
doubled_in (x ∷ xs) = doubled_behind x None xs
