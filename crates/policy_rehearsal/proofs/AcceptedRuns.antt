-- Files and records that were read give runs of which nothing is left to suppose but that no
-- listings clash.
use Rattle.std.proofs.Common.{◌≡◌, subst, ℕ, zero, suc, ◌<◌, true, List, [], ◌∷◌}
use Rattle.std.proofs.Common.{length, inl, inr, arith}
use Rattle.std.specs.List.{AllByRecursion}
use Rattle.file_paths.specs.Path.{are_names}
use Rattle.find_records.specs.Record.{Record}
use Rattle.tree_model.specs.Extents.{entry_at}
use Rattle.tree_model.specs.declared.choice.Choice.{Choice}
use Rattle.dir_digest.proofs.ReadLemmas.{read_listing}
use Rattle.label_rules.specs.declared.rules.Rules.{Rules}
use Rattle.relabel_core.specs.DigestBasis.{basis_by}
use Rattle.relabel_core.specs.declared.options.Options.{Options}
use Rattle.relabel_runs.specs.Premises.{AreTreeRuns, HasTreeRun, NoDigestClash}
use Rattle.relabel_runs.specs.Runs.{TreeRun}
use Rattle.policy_rehearsal.specs.Accepted.{ReadFilesGiveListings}
use Rattle.policy_rehearsal.specs.Accepted.{ReadPoliciesAreRuns, ReadRunsAreRuns}
use Rattle.policy_rehearsal.specs.Rehearsal.{runs_of}
use Rattle.policy_rehearsal.proofs.AcceptedPaths.{paths_are}
use Rattle.policy_rehearsal.proofs.AcceptedRules.{IsAccepted, policy_rules_accepted, rules_accepted}

each_path : (entries : List Record) → AllByRecursion (λ r. are_names r.path ≡ true) entries
    → (d : ℕ) → d < length entries → are_names (entry_at entries d).path ≡ true
each_path [] all d l = absurd (omega (arith, l))
each_path (r ∷ rs) all zero l = all.0
each_path (r ∷ rs) all (suc d) l = each_path rs all.1 d (omega (arith, l))

runs_by : (entries : List Record) (runs : List TreeRun)
    → AllByRecursion (λ r. are_names r.path ≡ true) entries
    → ((run : TreeRun) → HasTreeRun runs run → IsAccepted run.rules)
    → NoDigestClash entries runs → AreTreeRuns entries runs
runs_by entries runs named accepted none = record {
  paths = each_path entries named;
  read = λ run has. accepted run has run.options;
  no_clash = none;
}

pub read_runs_are_runs : ReadRunsAreRuns
read_runs_are_runs format input entries runs read from none =
    runs_by entries runs (paths_are format input entries read)
    (λ run has.
    let (list, known, says) = from run has in
    policy_rules_accepted list known run.rules says) none

each_policy : (choice : Choice) (options : Options) (policies : List Rules)
    → AllByRecursion IsAccepted policies → (run : TreeRun)
    → HasTreeRun (runs_of choice options policies) run → IsAccepted run.rules
each_policy choice options [] all run has = absurd has
each_policy choice options (rules ∷ policies) all run has = elim has [
  | inl same ↦ subst (λ (r : TreeRun). IsAccepted r.rules) same all.0
  | inr there ↦ each_policy choice options policies all.1 run there
]

pub policies_are_runs : ReadPoliciesAreRuns
policies_are_runs format input entries list count known policies choice options read says none =
    runs_by entries (runs_of choice options policies) (paths_are format input entries read)
    (each_policy choice options policies (rules_accepted list count known policies says)) none

pub files_give_listings : ReadFilesGiveListings
files_give_listings list known rules options says dir named =
    read_listing (basis_by rules options) (policy_rules_accepted list known rules says options) dir
    named
