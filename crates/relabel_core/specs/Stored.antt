-- The digests that are stored for the directories of a tree.
use Rattle.std.specs.Prelude.{◌≡◌, ◌==◌, ℕ, Bool, List, filter, get_or, map, nat_lt, Option, Some}
use Rattle.std.specs.Prelude.{None, if◌then◌else◌}
use Rattle.std.specs.List.{flat_map, last_or}
use Rattle.std.specs.BTreeMap.{BTreeMap, get}
use Rattle.std.specs.Ordering.{nat_cmp}
use Rattle.label_base.specs.Text.{same_bytes}
use Rattle.file_paths.specs.Path.{Path}
use Rattle.find_records.specs.Record.{Record}
use Rattle.setfattr_dump.specs.declared.dump.Attr.{Attr}
use Rattle.setfattr_dump.specs.declared.dump.Section.{Section}
use Rattle.setfattr_dump.specs.declared.marks.TheConstants.{DIGEST_KEY}
use Rattle.spec_match.specs.LastMatch.{last_of}
use Rattle.tree_model.specs.Extents.{is_directory}
use Rattle.tree_model.specs.Tree.{find_in}
use Rattle.relabel_core.specs.Walk.{StoredDigests, is_found_at}
use Rattle.relabel_core.specs.declared.stored.Stored.{Stored}

-- ---- what a dump stores for the directories of a tree

abbrev pub if_directory : List Record → Option ℕ → Option ℕ
if_directory entries None = None
if_directory entries (Some d) = if is_directory entries d then Some d else None

-- the index of the directory with this path
abbrev pub directory_at : List Record → Path → Option ℕ
directory_at entries path = if_directory entries (find_in path entries)

abbrev pub is_digest_attr : Attr → Bool
is_digest_attr attr = same_bytes attr.key DIGEST_KEY.now

-- the digests among attributes
abbrev pub digests_among : List Attr → List (List ℕ)
digests_among attrs = map (λ attr. attr.value) (filter is_digest_attr attrs)

-- all digests of the directory, in the order in which they stand
abbrev pub digests_at : List Section → List Record → ℕ → List (List ℕ)
digests_at sections entries d =
    flat_map (λ section. digests_among section.attrs)
    (filter (λ section. is_found_at (directory_at entries section.name) d) sections)

-- the last of them is stored
abbrev pub digests_by : List Section → List Record → StoredDigests
digests_by sections entries = λ d. last_of (digests_at sections entries d)

-- no directory has one
abbrev pub no_digests : StoredDigests
no_digests = λ d. None

-- the digests in a list, by the indices of the entries
abbrev pub digests_listed : List (Option (List ℕ)) → StoredDigests
digests_listed digests = λ d. get_or digests d None

-- ---- how they are kept

-- what a map keeps
abbrev pub digests_in : BTreeMap ℕ (List ℕ) → StoredDigests
digests_in stored = λ d. get nat_cmp stored d

-- what is stored
abbrev pub digests_of : Stored → StoredDigests
digests_of stored = digests_in stored.by_directory

-- one more is kept, for the directory d
abbrev pub Keeps : (old new : BTreeMap ℕ (List ℕ)) → ℕ → List ℕ → Type 0
Keeps old new d value = (e : ℕ)
    → digests_in new e ≡ (if d == e then Some value else digests_in old e)

-- the digests among these attributes are kept, for the directory d
abbrev pub KeepsAmong : (old new : BTreeMap ℕ (List ℕ)) → ℕ → List Attr → Type 0
KeepsAmong old new d attrs = (e : ℕ) → digests_in new e
    ≡ (if d == e then last_or (digests_in old e) (digests_among attrs) else digests_in old e)

-- the digests of these sections are kept
abbrev pub KeepsFrom : (old new : BTreeMap ℕ (List ℕ)) → List Record → List Section → Type 0
KeepsFrom old new entries sections = (e : ℕ)
    → digests_in new e ≡ last_or (digests_in old e) (digests_at sections entries e)

-- a digest is kept for the directory d, where there is one
abbrev pub AddsDigest : (old new : BTreeMap ℕ (List ℕ)) → ℕ → Option (List ℕ) → Type 0
AddsDigest old new d found =
    (e : ℕ) → digests_in new e ≡ (if d == e then found else digests_in old e)

-- what stands at the numbers below n
abbrev pub stored_before : (ℕ → Option (List ℕ)) → ℕ → ℕ → Option (List ℕ)
stored_before stored n e = if nat_lt e n then stored e else None
