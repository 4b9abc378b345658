-- The outside of a run at one moment: its store, its input and its sink, as they are seen.
use Rattle.std.specs.Prelude.{ℕ, List, Option}
use Rattle.input_output.specs.Store.{Files}
use Rattle.input_output.specs.declared.store.Store as stores
use Rattle.input_output.specs.declared.source.Source as sources
use Rattle.input_output.specs.declared.sink.Sink as sinks
use Rattle.run_endings.specs.Endings.{LineOrFront}

-- a store: itself, and what it shows
pub record StoreSeen (S : Type 0) : Type 0 where
  pub object : S
  -- its files, where they are known
  pub files : Option Files
  -- how many reads and writes it was asked for, where that is known
  pub calls : Option ℕ
  -- how many of the reads, and of the writes, have failed
  pub read_faults : ℕ
  pub write_faults : ℕ

-- an input: itself, and what it shows
pub record InputSeen (I : Type 0) : Type 0 where
  pub object : I
  -- the bytes that are left, where they are known
  pub left : Option (List ℕ)
  -- how many of the reads have failed
  pub faults : ℕ

-- what a sink shows
pub record SinkSeen : Type 0 where
  -- the bytes that were written, where they are known
  pub written : Option (List ℕ)
  -- how many of the writes have failed
  pub faults : ℕ

pub record Outside (S I : Type 0) : Type 0 where
  pub store : StoreSeen S
  pub input : InputSeen I
  pub sink : SinkSeen

-- ---- seen at an object

abbrev pub store_seen : {S : Type 0} → stores.Ghosts S → S → StoreSeen S
store_seen shows store = record {
  object = store;
  files = shows.files store;
  calls = shows.calls store;
  read_faults = shows.read_faults store;
  write_faults = shows.write_faults store;
}

abbrev pub input_seen : {I : Type 0} → sources.Ghosts I → I → InputSeen I
input_seen shows input = record {
  object = input;
  left = shows.left input;
  faults = shows.faults input;
}

abbrev pub sink_seen : {O : Type 0} → sinks.Ghosts O → O → SinkSeen
sink_seen shows sink = record { written = shows.written sink; faults = shows.faults sink }

-- the outside that these three are
abbrev pub outside : {S I O : Type 0} → stores.Ghosts S → sources.Ghosts I → sinks.Ghosts O
    → S → I → O → Outside S I
outside of_store of_input of_sink store input sink = record {
  store = store_seen of_store store;
  input = input_seen of_input input;
  sink = sink_seen of_sink sink;
}

-- ---- between two moments

-- a line was written, or a front of it where the sink failed
abbrev pub WritesLine : SinkSeen → SinkSeen → List ℕ → Type 0
WritesLine sink sink_now line =
    LineOrFront (λ (s : SinkSeen). s.written) (λ (s : SinkSeen). s.faults) sink sink_now line
