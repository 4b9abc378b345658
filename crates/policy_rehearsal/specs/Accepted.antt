-- Files and records that were read give runs of which all is true that the theorem on skipping asks
-- of runs, but that no listings clash; that is all that is left to suppose.
use Rattle.std.specs.Prelude.{◌≡◌, ℕ, true, List, Ok}
use Rattle.input_output.specs.Store.{Files}
use Rattle.file_roles.specs.declared.list.NamedFile.{NamedFile}
use Rattle.file_paths.specs.Path.{Path, are_names}
use Rattle.find_records.specs.Record.{Record}
use Rattle.find_records.specs.declared.format.Format.{Format}
use Rattle.tree_model.specs.declared.choice.Choice.{Choice}
use Rattle.dir_digest.specs.Basis.{listing_on}
use Rattle.dir_digest.specs.ListingBytes.{IsListing}
use Rattle.label_rules.specs.declared.rules.Rules.{Rules}
use Rattle.run_input.specs.Records.{records_read}
use Rattle.policy_files.specs.Rules.{rules_for}
use Rattle.relabel_core.specs.DigestBasis.{basis_by}
use Rattle.relabel_core.specs.declared.options.Options.{Options}
use Rattle.relabel_runs.specs.Premises.{AreTreeRuns, HasTreeRun, NoDigestClash}
use Rattle.relabel_runs.specs.Runs.{TreeRun}
use Rattle.policy_rehearsal.specs.Files.{rules_read}
use Rattle.policy_rehearsal.specs.Rehearsal.{runs_of}

-- some files were read as these rules
abbrev pub IsFromFiles : Rules → Type 0
IsFromFiles rules =
    (list : List NamedFile) × (known : Files) × ((rules_for list known).says ≡ Ok rules)

-- runs one after the other, each by files of its own, over a tree of records
abbrev pub ReadRunsAreRuns : Type 0
ReadRunsAreRuns =
    (format : Format) (input : List ℕ) (entries : List Record) (runs : List TreeRun)
    → records_read format input ≡ Ok entries
    → ((run : TreeRun) → HasTreeRun runs run → IsFromFiles run.rules)
    → NoDigestClash entries runs → AreTreeRuns entries runs

-- the runs of several versions of a policy
abbrev pub ReadPoliciesAreRuns : Type 0
ReadPoliciesAreRuns =
    (format : Format) (input : List ℕ) (entries : List Record) (list : List NamedFile) (count : ℕ)
    (known : Files) (policies : List Rules) (choice : Choice) (options : Options)
    → records_read format input ≡ Ok entries → (rules_read list count known).says ≡ Ok policies
    → NoDigestClash entries (runs_of choice options policies)
    → AreTreeRuns entries (runs_of choice options policies)

-- the listings of directories by files that were read are such of which the bytes tell the fields
abbrev pub ReadFilesGiveListings : Type 0
ReadFilesGiveListings =
    (list : List NamedFile) (known : Files) (rules : Rules) (options : Options)
    → (rules_for list known).says ≡ Ok rules → (dir : Path) → are_names dir ≡ true
    → IsListing (listing_on (basis_by rules options) dir)
