-- Skipping changes no label.
use Rattle.std.specs.Prelude.{◌≡◌, ℕ, ◌<◌, false, true, List, [], ◌∷◌, ◌++◌, length}
use Rattle.find_records.specs.Record.{Record}
use Rattle.tree_model.specs.Extents.{is_directory}
use Rattle.tree_model.specs.Groups.{group_of, label_in}
use Rattle.relabel_core.specs.Walk.{StoredDigests, Walk, new_label, skippable}
use Rattle.relabel_core.specs.Walked.{walk_for}
use Rattle.relabel_runs.specs.Premises.{AreTreeRuns}
use Rattle.relabel_runs.specs.Runs.{IsBareState, TreeRun, TreeState, end, end_off, not_skipping}
use Rattle.relabel_runs.specs.Runs.{records_read_as, walk_at}

-- with skipping off, no directory is skipped
abbrev pub NoneSkipped : Type 0
NoneSkipped =
    (entries : List Record) (s : TreeState) (run : TreeRun) (d : ℕ)
    → skippable (walk_at entries s (not_skipping run)) d ≡ false

-- From a state without digests, runs leave the labels that the same runs leave with skipping off,
-- whether or not they read link counts.
abbrev pub SkippingKeepsLabels : Type 0
SkippingKeepsLabels =
    (entries : List Record) (runs : List TreeRun) → AreTreeRuns entries runs
    → (s : TreeState) → IsBareState s
    → (e : ℕ) → e < length entries
    → (end entries s runs).labels (group_of entries e)
    ≡ (end_off entries s runs).labels (group_of entries e)

-- the tree has the labels of a state, and these digests are its
pub record IsNow (entries : List Record) (stored : StoredDigests) (s : TreeState) : Type 0 where
  pub labels : (e : ℕ) → e < length entries
      → label_in entries (group_of entries e) ≡ s.labels (group_of entries e)
  pub digests : (d : ℕ) → d < length entries → is_directory entries d ≡ true
      → stored d ≡ s.digests d

-- Whichever runs left the labels of the tree and these digests, if they began without digests: the
-- walk leaves the labels that all of them and this run leave with skipping off. They ran over this
-- tree; where this run reads no link counts, these may have been any.
abbrev pub KeepsLabels : List Record → StoredDigests → TreeRun → Walk → Type 0
KeepsLabels entries stored run w =
    (tree : List Record) → entries ≡ records_read_as run.options.format tree
    → (runs : List TreeRun) → AreTreeRuns tree (runs ++ run ∷ [])
    → (s : TreeState) → IsBareState s → IsNow entries stored (end tree s runs)
    → (e : ℕ) → e < length entries
    → new_label w (group_of entries e)
    ≡ (end_off tree s (runs ++ run ∷ [])).labels (group_of entries e)

-- One more run: so it is for its walk over the tree.
abbrev pub OneMoreRunKeepsLabels : Type 0
OneMoreRunKeepsLabels =
    (entries : List Record) (stored : StoredDigests) (run : TreeRun)
    → KeepsLabels entries stored run
    (walk_for entries run.choice run.rules run.options stored)
