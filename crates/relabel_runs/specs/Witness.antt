-- Runs over a small tree that meet all that is asked of runs.
use Rattle.std.specs.Prelude.{◌≢◌, ℕ, [], ◌∷◌, List}
use Rattle.find_records.specs.Record.{Record}
use Rattle.tree_model.specs.Groups.{group_of}
use Rattle.relabel_runs.specs.Premises.{AreTreeRuns, IsDigested}
use Rattle.relabel_runs.specs.Runs.{IsBareState, TreeRun, TreeState, state_after}

-- a run, twice: it digests a directory, and changes the label of an entry
pub record TreeRunsHappen : Type 0 where
  pub entries : List Record
  pub run : TreeRun
  pub are_runs : AreTreeRuns entries (run ∷ run ∷ [])
  pub s : TreeState
  pub bare : IsBareState s
  pub directory : ℕ
  pub digested : IsDigested entries run directory
  pub entry : ℕ
  pub changes : (state_after entries s run).labels (group_of entries entry)
      ≢ s.labels (group_of entries entry)
