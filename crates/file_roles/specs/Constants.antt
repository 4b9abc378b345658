-- What the constants of this crate are, in figures.
use Rattle.std.specs.Prelude.{◌≡◌}
use Rattle.file_roles.specs.declared.role.TheConstants.{MOST_LIST_BYTES, MOST_OUTPUT_BYTES}
use Rattle.file_roles.specs.declared.role.TheConstants.{MOST_REPORT_BYTES, MOST_SPEC_BYTES}
use Rattle.file_roles.specs.declared.role.TheConstants.{MOST_STORED_BYTES}

-- how many bytes a file may have
pub record ConstantsAreStated : Type 0 where
  -- file_contexts, its .homedirs and .local, a template
  pub of_specs : MOST_SPEC_BYTES ≡ 67108864
  -- .subs, .subs_dist, customizable_types, users
  pub of_lists : MOST_LIST_BYTES ≡ 1048576
  -- stored digests
  pub of_digests : MOST_STORED_BYTES ≡ 268435456
  -- what is audited
  pub of_reports : MOST_REPORT_BYTES ≡ 536870912
  pub of_dumps : MOST_OUTPUT_BYTES ≡ 268435456
