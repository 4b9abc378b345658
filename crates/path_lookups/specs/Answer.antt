-- What matchpathcon writes.
use Rattle.std.specs.Prelude.{ℕ, ◌==◌, List, None, if◌then◌else◌}
use Rattle.find_records.specs.Record.{Record}
use Rattle.report_text.specs.Texts.{report_of}
use Rattle.label_rules.specs.declared.rules.Rules.{Rules}
use Rattle.run_endings.specs.declared.ending.End.{End}
use Rattle.run_endings.specs.declared.ending.End.TheVariants.{Done, Differs}
use Rattle.run_endings.specs.declared.ending.Ending.{Ending}
use Rattle.path_lookups.specs.Found.{found_messages}
use Rattle.path_lookups.specs.Verified.{count_unverified, verified_messages}
use Rattle.path_lookups.specs.declared.words.LookupWords.{LookupWords}

abbrev pub lookup_end : ℕ → End
lookup_end count = if count == 0 then Done else Differs count

-- a line for each path, with what decides it
abbrev pub found_ending : LookupWords → Rules → Ending
found_ending words rules = record {
  report = report_of (found_messages rules words.asked words.bare words.paths);
  end = Done;
  saved = None;
}

-- a line for each path: whether its entry has the label that it should have
abbrev pub verified_ending : LookupWords → Rules → List Record → Ending
verified_ending words rules entries = record {
  report = report_of (verified_messages rules entries words.asked words.paths);
  end = lookup_end
      (count_unverified (verified_messages rules entries words.asked words.paths));
  saved = None;
}

unfoldable pub lookups_of : LookupWords → Rules → List Record → Ending
lookups_of words rules entries =
    if words.verify then verified_ending words rules entries else found_ending words rules
