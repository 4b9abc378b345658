-- What decides the digests of the directories of a walk.
use Rattle.context_syntax.specs.TypeNames.{names_in_order}
use Rattle.dir_digest.specs.Basis.{Basis}
use Rattle.relabel_core.specs.declared.options.Options.{Options}
use Rattle.label_rules.specs.declared.rules.Rules.{Rules}

abbrev pub basis_by : Rules → Options → Basis
basis_by rules options = record {
  format = options.format;
  force = options.force;
  types = names_in_order rules.types;
  first = rules.subs.first;
  second = rules.subs.second;
  specs = rules.rules;
}
