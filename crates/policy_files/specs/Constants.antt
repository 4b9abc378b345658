-- What the constants of this crate are, in letters and figures.
use Rattle.std.specs.Prelude.{◌≡◌, codes}
use Rattle.policy_files.specs.declared.names.TheConstants as names
use Rattle.policy_files.specs.declared.reading.TheConstants.{MOST_SPECS}

pub record ConstantsAreStated : Type 0 where
  -- the most specifications of the base file, .homedirs and .local together
  pub most_specs : MOST_SPECS ≡ 65536
  -- the base file where none is given
  pub default_base : names.DEFAULT_BASE.now
      ≡ codes "/etc/selinux/targeted/contexts/files/file_contexts"
  -- what is added to its name
  pub homedirs : names.HOMEDIRS.now ≡ codes ".homedirs"
  pub local : names.LOCAL.now ≡ codes ".local"
  pub subs : names.SUBS.now ≡ codes ".subs"
  pub subs_dist : names.SUBS_DIST.now ≡ codes ".subs_dist"
  -- where the customizable types stand, whatever the base file
  pub customizable_types : names.CUSTOMIZABLE_TYPES.now
      ≡ codes "/etc/selinux/targeted/contexts/customizable_types"
