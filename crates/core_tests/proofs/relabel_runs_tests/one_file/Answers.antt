use Rattle.find_records.specs.declared.format.Format.TheVariants.{One}
use Rattle.core_tests.proofs.relabel_runs_tests.one_file.Goals as goal

pub returns : goal.returns
returns c = c.in_ok-new.ensures.of_format One c.in_ok-records-2.ensures.of_format
