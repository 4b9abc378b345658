-- What contracts see of what finds contexts.
use Rattle.std.specs.Prelude.{◌≡◌}
use Rattle.label_rules.specs.declared.rules.Rules.{Rules}
use Rattle.spec_match.specs.Scratches.{IsScratchOf}
use Rattle.path_lookups.specs.declared.finder.Finder.{Finder}
use Rattle.path_lookups.specs.declared.finder.Finder.TheVariants.{Listed, Ready}

-- the rules by which it finds them
abbrev pub rules_of : Finder → Rules
rules_of (Listed rules) = rules.now
rules_of (Ready rules scratch) = rules.now

-- look-ups may work in what it has
abbrev pub CanFind : Finder → Type 0
CanFind (Listed rules) = Unit {0}
CanFind (Ready rules scratch) = IsScratchOf rules.now.rules scratch

-- it finds contexts by these rules
pub record IsFinderOf (rules : Rules) (finder : Finder) : Type 0 where
  pub can : CanFind finder
  pub by : rules_of finder ≡ rules
