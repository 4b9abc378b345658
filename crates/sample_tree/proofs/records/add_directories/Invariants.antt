use Rattle.std.proofs.Common.{◌≡◌, ◌++◌}
use Rattle.sample_tree.specs.Sample.{directory_text, texts_below}
use Rattle.sample_tree.proofs.records.add_directories.Given as goal

-- the records so far
abbrev pub invariant-directories : goal.invariant-directories
invariant-directories l = l.text ≡ l.initial.text ++ texts_below directory_text l.k
