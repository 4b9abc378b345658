-- The inode of an entry.
use Rattle.std.specs.Prelude.{ℕ, Bool, ◌==◌, ◌&&◌}
use Rattle.find_records.specs.Record.{Record}

-- the device and the number of an entry's inode
abbrev pub inode_of : Record → ℕ × ℕ
inode_of entry = (entry.device, entry.inode)

abbrev pub same_inode : ℕ × ℕ → ℕ × ℕ → Bool
same_inode a b = (a.0 == b.0) && (a.1 == b.1)
