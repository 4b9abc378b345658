use Rattle.std.proofs.Common.{◌≡◌, ◌++◌}
use Rattle.sample_tree.specs.Sample.{file_text, texts_below}
use Rattle.sample_tree.proofs.records.add_files.Given as goal

-- the records so far
abbrev pub invariant-files : goal.invariant-files
invariant-files l = l.text ≡ l.initial.text ++ texts_below file_text l.i
