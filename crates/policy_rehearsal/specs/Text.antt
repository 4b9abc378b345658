-- The text that tells a rehearsal.
use Rattle.std.specs.Prelude.{ℕ, ◌+◌, List, [], ◌++◌, length, map, get_or}
use Rattle.std.specs.Fmt.{decimal}
use Rattle.std.specs.List.{flat_map}
use Rattle.label_base.specs.Bounded.{all_numbers}
use Rattle.label_base.specs.Escape.{escaped}
use Rattle.find_records.specs.Record.{Record}
use Rattle.tree_model.specs.Extents.{entry_at}
use Rattle.report_text.specs.Message.{MessageValue, Relabel}
use Rattle.report_text.specs.Texts.{report_of}
use Rattle.std.specs.Prelude.{false}
use Rattle.policy_rehearsal.specs.Rehearsal.{ChangeValue, TurnValue}
use Rattle.policy_rehearsal.specs.declared.texts.TheConstants.{BEFORE_NAME, CHANGED, COLON, SKIPPED}
use Rattle.policy_rehearsal.specs.declared.texts.TheConstants.{VERSION}

-- the version's number and name, and two counts
unfoldable pub turn_head : (number : ℕ) → (name : List ℕ) → (changed skipped : ℕ) → List ℕ
turn_head number name changed skipped =
    VERSION.now ++ decimal number ++ BEFORE_NAME.now ++ escaped name ++ COLON.now
    ++ decimal changed ++ CHANGED.now ++ decimal skipped ++ SKIPPED.now

-- the label was changed
abbrev pub change_message : List Record → ChangeValue → MessageValue
change_message entries c = Relabel (entry_at entries c.entry).path c.from c.to false

unfoldable pub turn_text : List Record → (number : ℕ) → (name : List ℕ) → TurnValue → List ℕ
turn_text entries number name turn =
    turn_head number name (length turn.changes) turn.skipped
    ++ report_of (map (change_message entries) turn.changes)

abbrev pub no_turn : TurnValue
no_turn = record { changes = []; skipped = 0 }

-- the text of the turn at this place; versions are numbered from 1
abbrev pub text_at : List Record → (names : List (List ℕ)) → List TurnValue → ℕ → List ℕ
text_at entries names turns k =
    turn_text entries (k + 1) (get_or names k []) (get_or turns k no_turn)

-- those of all turns
abbrev pub rehearsal_text : List Record → (names : List (List ℕ)) → List TurnValue → List ℕ
rehearsal_text entries names turns =
    flat_map (text_at entries names turns) (all_numbers (length turns))
