-- What contracts see of the rules by which paths are looked up.
use Rattle.label_rules.specs.declared.rules.Rules.{Rules}
use Rattle.path_lookups.specs.declared.path_rules.Readiness.{Readiness}
use Rattle.path_lookups.specs.declared.path_rules.Readiness.TheVariants.{Listed, Ready}

-- the rules, whether they are ready or not
abbrev pub rules_in : Readiness → Rules
rules_in (Listed rules) = rules
rules_in (Ready rules) = rules
