-- What contracts see of what is known of an entry.
use Rattle.std.specs.Prelude.{ℕ}
use Rattle.relabel_core.specs.Walk.{Walk}
use Rattle.relabel_core.specs.Walked.{walk_of}
use Rattle.relabel_core.specs.declared.known.Known.{Known}

-- the walk whose entry it is
abbrev pub walk_known : Known → Walk
walk_known known = walk_of known.input

-- the index of the entry
abbrev pub index_known : Known → ℕ
index_known known = known.index
