-- What is asked of runs.
use Rattle.std.specs.Prelude.{◌≡◌, ◌⊎◌, ℕ, ◌<◌, true, ◌||◌, List, [], ◌∷◌, length}
use Rattle.sha1.specs.Sha1.{sha1}
use Rattle.file_paths.specs.Path.{Path, are_names}
use Rattle.dir_digest.specs.ListingBytes.{listing_bytes}
use Rattle.dir_digest.specs.Basis.{AreRead, Basis, listing_on}
use Rattle.find_records.specs.Record.{Record}
use Rattle.tree_model.specs.Extents.{entry_at, is_directory}
use Rattle.tree_model.specs.Selection.{selected_by, whole_at}
use Rattle.relabel_core.specs.DigestBasis.{basis_by}
use Rattle.relabel_runs.specs.Runs.{TreeRun, records_read_as}

-- the list has the run
abbrev pub HasTreeRun : List TreeRun → TreeRun → Type 0
HasTreeRun [] run = ⊥
HasTreeRun (first ∷ runs) run = (first ≡ run) ⊎ HasTreeRun runs run

-- what decides its listings
abbrev pub run_basis : TreeRun → Basis
run_basis run = basis_by run.rules run.options

-- the bytes of a directory's listing
abbrev pub listing_in : TreeRun → Path → List ℕ
listing_in run path = listing_bytes (listing_on (run_basis run) path)

-- the run makes digests, and the directory is whole in it: as its records tell, all names of its
-- inodes lie at or below it, and all that lies there is asked for
pub record IsDigested (entries : List Record) (run : TreeRun) (d : ℕ) : Type 0 where
  pub inside : d < length entries
  pub digests : (run.options.digests || run.options.ignore_digests) ≡ true
  pub directory : is_directory entries d ≡ true
  pub whole : whole_at (records_read_as run.options.format entries)
      (selected_by run.choice entries).live d ≡ true

-- among the listings that the runs digest, no two differ and have one digest
abbrev pub NoDigestClash : List Record → List TreeRun → Type 0
NoDigestClash entries runs =
    (a b : TreeRun) → HasTreeRun runs a → HasTreeRun runs b
    → (d e : ℕ) → IsDigested entries a d → IsDigested entries b e
    → sha1 (listing_in a (entry_at entries d).path) ≡ sha1 (listing_in b (entry_at entries e).path)
    → listing_in a (entry_at entries d).path ≡ listing_in b (entry_at entries e).path

-- the entries have paths, and the files of each run were accepted; and no listings clash
pub record AreTreeRuns (entries : List Record) (runs : List TreeRun) : Type 0 where
  pub paths : (d : ℕ) → d < length entries → are_names (entry_at entries d).path ≡ true
  pub read : (run : TreeRun) → HasTreeRun runs run → AreRead (run_basis run)
  pub no_clash : NoDigestClash entries runs
