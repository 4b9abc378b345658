use Rattle.std.proofs.Common.{◌≡◌, ◌++◌, drop}
use Rattle.policy_rehearsal.specs.Files.{version_names}
use Rattle.policy_rehearsal.proofs.files.add_policies.Given as goal

-- the files so far, and those of the policies that are left
abbrev pub invariant-bases : goal.invariant-bases
invariant-bases l = record {
  list : l.list ++ version_names l.version (drop l.base-index l.bases)
      ≡ l.initial.list ++ version_names 0 l.bases;
  version : l.version ≡ l.base-index;
}
