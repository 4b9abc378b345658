-- A look-up saves no file.
use Rattle.std.proofs.Common.{◌≡◌, refl, cond, ap, Bool, true, false, List}
use Rattle.std.specs.Prelude.{None, option_map}
use Rattle.find_records.specs.Record.{Record}
use Rattle.label_rules.specs.declared.rules.Rules.{Rules}
use Rattle.run_endings.specs.declared.ending.Ending.{Ending}
use Rattle.tool_runs.specs.Stages.{saved_name}
use Rattle.path_lookups.specs.Answer.{lookups_of}
use Rattle.path_lookups.specs.declared.words.LookupWords.{LookupWords}

none_of_two : (b : Bool) (x y : Ending) → x.saved ≡ None → y.saved ≡ None
    → option_map saved_name (cond b x y).saved ≡ None
none_of_two true x y is other = ap (option_map saved_name) is
none_of_two false x y is other = ap (option_map saved_name) other

pub saves_none : (words : LookupWords) (rules : Rules) (entries : List Record)
    → option_map saved_name (lookups_of words rules entries).saved ≡ None
unfolding lookups_of
saves_none words rules entries = none_of_two words.verify _ _ refl refl
