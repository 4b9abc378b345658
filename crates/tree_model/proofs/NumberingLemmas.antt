-- The inodes of entries, each read where its entry stands.
use Rattle.std.proofs.Common.{◌≡◌, ◌∙◌, ap, sym, ℕ, List, length, map, get_or}
use Rattle.std.specs.Prelude.{Some, slice_get}
use Rattle.std.proofs.lemmas.Option.{slice_get_within, get_or_from_slice_get}
use Rattle.std.proofs.lemmas.List.{get_or-map, length-map}
use Rattle.find_records.specs.Record.{Record}
use Rattle.tree_model.specs.Links.{inode_of}

abbrev pub Inode : Type 0
Inode = ℕ × ℕ

-- there are as many as entries
pub inodes_counted : (entries : List Record) → length entries ≡ length (map inode_of entries)
inodes_counted entries = sym (length-map entries inode_of)

-- the inode of an entry that is read
pub inode_read : (entries : List Record) (k : ℕ) (r : Record) → slice_get entries k ≡ Some r
    → inode_of r ≡ get_or (map inode_of entries) k (0, 0)
inode_read entries k r h =
    let l = slice_get_within entries k r h in
    sym (get_or-map inode_of entries k r (0, 0) l
    ∙ ap inode_of (get_or_from_slice_get entries k r r h))
