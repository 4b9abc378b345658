use Rattle.std.proofs.Common.{◌≡◌, ◌<◌, ℕ, false, get_or, drop}
use Rattle.input_output.specs.Store.{file_found_in, file_has_name}
use Rattle.input_output.specs.declared.mem_store.MemFile.{MemFile}
use Rattle.input_output.proofs.mem_store.place_of.Given as goal

-- no file so far has the name
abbrev pub invariant-loop-place : goal.invariant-loop-place
invariant-loop-place l = record {
  before : (k : ℕ) (d : MemFile) → k < l.place → file_has_name l.name (get_or l.files k d) ≡ false;
  left : file_found_in l.files l.name ≡ file_found_in (drop l.place l.files) l.name;
}
