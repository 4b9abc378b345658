use Rattle.std.proofs.Common.{◌≡◌, drop}
use Rattle.input_output.specs.Store.{file_found_in}
use Rattle.input_output.proofs.mem_store.find_file.Given as goal

abbrev pub invariant-loop-file : goal.invariant-loop-file
invariant-loop-file l = file_found_in l.files l.name ≡ file_found_in (drop l.file-index l.files)
    l.name
