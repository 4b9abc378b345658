-- What setfiles and restorecon write.
use Rattle.std.specs.Prelude.{ℕ, ◌==◌, List, Option, Some, None, if◌then◌else◌}
use Rattle.find_records.specs.Record.{Record}
use Rattle.setfattr_dump.specs.Texts.{dump_text}
use Rattle.report_text.specs.Texts.{report_of}
use Rattle.relabel_core.specs.Changes.{changes}
use Rattle.relabel_core.specs.Stored.{digests_by}
use Rattle.relabel_core.specs.Walk.{Walk, errors, messages}
use Rattle.relabel_core.specs.Walked.{walk_for}
use Rattle.run_endings.specs.declared.ending.End.{End}
use Rattle.run_endings.specs.declared.ending.End.TheVariants.{Done, WalkErrors}
use Rattle.run_endings.specs.declared.ending.Ending.{Ending}
use Rattle.run_endings.specs.declared.ending.Saved.{Saved}
use Rattle.tree_relabelling.specs.declared.found.RelabelFiles.{RelabelFiles}
use Rattle.tree_relabelling.specs.declared.words.RelabelWords.{RelabelWords}

abbrev pub walk_end : ℕ → End
walk_end errors = if errors == 0 then Done else WalkErrors errors

-- a text goes to the file of this name, where there is a name
abbrev pub saved_as : Option (List ℕ) → List ℕ → Option Saved
saved_as None text = None
saved_as (Some name) text = Some (record { name = name; text = text })

-- the lines of a walk, how it ends, and its dump, which goes to the file of -o
abbrev pub relabel_ending : Option (List ℕ) → Walk → Ending
relabel_ending output walk = record {
  report = report_of (messages walk);
  end = walk_end (errors walk);
  saved = saved_as output (dump_text (changes walk));
}

-- the walk over the entries of the input, by the rules that the files give and from the digests
-- that they store
unfoldable pub relabelling_of : RelabelWords → RelabelFiles → List Record → Ending
relabelling_of words found entries =
    relabel_ending words.output (walk_for entries words.choice found.rules words.options
    (digests_by found.stored.sections entries))
