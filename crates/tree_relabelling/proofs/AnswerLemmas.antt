-- The dump goes to the file of -o.
use Rattle.std.proofs.Common.{◌≡◌, refl, ℕ, List}
use Rattle.std.specs.Prelude.{Option, Some, None, option_map}
use Rattle.find_records.specs.Record.{Record}
use Rattle.tool_runs.specs.Stages.{saved_name}
use Rattle.tree_relabelling.specs.Answer.{relabelling_of, saved_as}
use Rattle.tree_relabelling.specs.declared.found.RelabelFiles.{RelabelFiles}
use Rattle.tree_relabelling.specs.declared.words.RelabelWords.{RelabelWords}

saved_under : (output : Option (List ℕ)) (text : List ℕ)
    → option_map saved_name (saved_as output text) ≡ output
saved_under None text = refl
saved_under (Some name) text = refl

pub saves_output : (words : RelabelWords) (found : RelabelFiles) (entries : List Record)
    → option_map saved_name (relabelling_of words found entries).saved ≡ words.output
unfolding relabelling_of
saves_output words found entries = saved_under words.output _
