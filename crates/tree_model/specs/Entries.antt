-- The entries of a tree: the records, those equal in every field counted once, in the order of
-- their paths.
use Rattle.std.specs.Prelude.{ℕ, ◌+◌, Bool, ◌&&◌, ◌==◌, not, List, [], ◌∷◌, ◌++◌, length, Option}
use Rattle.std.specs.Prelude.{Some, None, Result, Ok, Err, if◌then◌else◌}
use Rattle.std.specs.List.{list_any}
use Rattle.std.specs.Option.{option_eq}
use Rattle.std.specs.Cmp.Lexicographic.{pointwise}
use Rattle.std.specs.declared.cmp.Ordering.{Ordering}
use Rattle.std.specs.declared.cmp.Ordering.TheVariants.{Less, Equal, Greater}
use Rattle.label_base.specs.Kind.{same_kind}
use Rattle.label_base.specs.Text.{same_bytes}
use Rattle.file_paths.specs.Path.{Path, path_cmp}
use Rattle.context_syntax.specs.Label.{same_label}
use Rattle.find_records.specs.Record.{Record}

abbrev pub same_path : Path → Path → Bool
same_path = pointwise same_bytes

abbrev pub same_links : Option ℕ → Option ℕ → Bool
same_links = option_eq (λ a b. a == b)

-- equal in every field
abbrev pub same_record : Record → Record → Bool
same_record a b =
    (a.inode == b.inode) && (a.device == b.device) && same_kind a.kind b.kind
    && same_links a.links b.links && same_label a.label b.label && same_path a.path b.path

-- one path, and another kind, device, inode, link count or label
abbrev pub contradicts : Record → Record → Bool
contradicts a b = same_path a.path b.path && not (same_record a b)

-- the number of the first record with the path, where the records are numbered from n
abbrev pub first_from : ℕ → Path → List Record → ℕ
first_from n path [] = n
first_from n path (r ∷ rs) = if same_path r.path path then n else first_from (n + 1) path rs

-- with these records before: the first number with its path, and the number, of the first record
-- whose path an earlier one has with another kind, device, inode, link count or label
abbrev pub doubled_after : List Record → List Record → Option (ℕ × ℕ)
doubled_after earlier [] = None
doubled_after earlier (r ∷ rs) =
    if list_any (contradicts r) earlier then Some (first_from 1 r.path earlier, length earlier + 1)
    else doubled_after (earlier ++ r ∷ []) rs

unfoldable pub doubled : List Record → Option (ℕ × ℕ)
doubled records = doubled_after [] records

-- a record before entries, in their place, or behind the first of them, by how it compares with
-- that one
abbrev pub entry_placed : Ordering → Record → Record → List Record → List Record → List Record
entry_placed Less r e es behind = r ∷ e ∷ es
entry_placed Equal r e es behind = e ∷ es
entry_placed Greater r e es behind = e ∷ behind

-- a record put into entries, in the order of the paths, unless its path is there
abbrev pub entered : Record → List Record → List Record
entered r [] = r ∷ []
entered r (e ∷ es) = entry_placed (path_cmp r.path e.path) r e es (entered r es)

unfoldable pub entries_of : List Record → List Record
entries_of [] = []
entries_of (r ∷ rs) = entered r (entries_of rs)

abbrev pub unless_doubled : Option (ℕ × ℕ) → List Record → Result (List Record) (ℕ × ℕ)
unless_doubled None entries = Ok entries
unless_doubled (Some numbers) entries = Err numbers

-- the entries, or the numbers of two records that have one path and differ
abbrev pub tree_of : List Record → Result (List Record) (ℕ × ℕ)
tree_of records = unless_doubled (doubled records) (entries_of records)
