-- What a choice selects goes with the tree and the operands.
use Rattle.std.proofs.Common.{◌∙◌, ℕ, suc, ◌≤◌, Bool, true, false, List, [], ◌∷◌, length, arith}
use Rattle.std.proofs.Common.{if◌then◌else◌}
use Rattle.std.specs.Prelude.{is_some}
use Rattle.std.proofs.lemmas.List.{length-map}
use Rattle.label_base.specs.Bounded.{all_numbers}
use Rattle.file_paths.specs.Path.{Path}
use Rattle.label_base.proofs.BoundedLemmas.{count_numbers}
use Rattle.find_records.specs.Record.{Record}
use Rattle.tree_model.specs.Selection.{absent_from, is_chosen, selected_by}
use Rattle.tree_model.specs.Tree.{find_in}
use Rattle.tree_model.specs.declared.choice.Choice.{Choice}
use Rattle.relabel_core.specs.Walked.{IsFor}

one_of : (b : Bool) (index n : ℕ) (rest : List ℕ) → length rest ≤ n
    → length (if b then rest else index ∷ rest) ≤ suc n
one_of true index n rest l = omega (arith, l)
one_of false index n rest l = omega (arith, l)

few_absent : (index : ℕ) (entries : List Record) (operands : List Path)
    → length (absent_from index entries operands) ≤ length operands
few_absent index entries [] = omega arith
few_absent index entries (path ∷ paths) =
    one_of (is_some (find_in path entries)) index (length paths)
    (absent_from (suc index) entries paths) (few_absent (suc index) entries paths)

pub selected_is_for : (choice : Choice) (entries : List Record)
    → IsFor entries choice.operands (selected_by choice entries)
selected_is_for choice entries = record {
  each_entry = length-map (all_numbers (length entries)) (is_chosen choice entries)
      ∙ count_numbers (length entries);
  absent_few = few_absent 0 entries choice.operands;
}
