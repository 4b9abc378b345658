-- What the walks over a sample are asked for: setfiles -F -v -D over the root.
use Rattle.std.specs.Prelude.{true, false, [], ◌∷◌}
use Rattle.find_records.specs.declared.format.Format.TheVariants.{One}
use Rattle.relabel_core.specs.declared.options.Options.{Options}
use Rattle.tree_model.specs.declared.choice.Choice.{Choice}

abbrev pub sample_choice : Choice
sample_choice = record { operands = [] ∷ []; excluded = []; recurse = true; one_device = false }

abbrev pub sample_options : Options
sample_options = record {
  force = true;
  dry = false;
  digests = true;
  ignore_digests = false;
  verbose = true;
  warn_unmatched = false;
  strict_links = false;
  ignore_absent = false;
  format = One;
}
