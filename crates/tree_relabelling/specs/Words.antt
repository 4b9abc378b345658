-- What the words of setfiles(8) and restorecon(8) ask for.
use Rattle.std.specs.Prelude.{ℕ, ◌+◌, Bool, true, false, not, ◌||◌, List, length, Option, Some}
use Rattle.std.specs.Prelude.{None, Result, Ok, Err, if◌then◌else◌}
use Rattle.std.specs.Option.{unwrap_or}
use Rattle.find_records.specs.declared.format.Format.{Format}
use Rattle.find_records.specs.declared.format.Format.TheVariants as format
use Rattle.relabel_core.specs.declared.options.Options.{Options}
use Rattle.tree_model.specs.declared.choice.Choice.{Choice}
use Rattle.tool_words.specs.Items.{Item}
use Rattle.tool_words.specs.Tool.{Tool}
use Rattle.tool_words.specs.Words.{given_paths, has_flag, has_operand, has_value, items_read}
use Rattle.tool_words.specs.Words.{number_given, operand_paths, unless_wrong, usage, value_of}
use Rattle.tool_words.specs.declared.usage.Usage.{Usage}
use Rattle.tool_words.specs.declared.usage.UsageWhy.TheVariants.{MissingOperand, NoOutput}
use Rattle.policy_files.specs.declared.names.TheConstants.{DEFAULT_BASE}
use Rattle.tree_relabelling.specs.Letters.{restorecon, setfiles}
use Rattle.tree_relabelling.specs.declared.letters.TheConstants.{BASE, DIGESTS, DRY, EXCLUDED}
use Rattle.tree_relabelling.specs.declared.letters.TheConstants.{FORCE, IGNORE_ABSENT}
use Rattle.tree_relabelling.specs.declared.letters.TheConstants.{IGNORE_DIGESTS, LINK_COUNTS}
use Rattle.tree_relabelling.specs.declared.letters.TheConstants.{MOST_WORKERS, ONE_DEVICE, OUTPUT}
use Rattle.tree_relabelling.specs.declared.letters.TheConstants.{RECURSE, RECURSE_TOO, SOFT_ERRORS}
use Rattle.tree_relabelling.specs.declared.letters.TheConstants.{STORED, STRICT_LINKS, VERBOSE}
use Rattle.tree_relabelling.specs.declared.letters.TheConstants.{WARN_UNMATCHED, WORKERS}
use Rattle.tree_relabelling.specs.declared.words.RelabelWords.{RelabelWords}
use Rattle.tree_relabelling.specs.declared.words.TheConstants.{DEFAULT_WORKERS}

-- the file of specifications
abbrev pub relabel_base : List Item → List ℕ
relabel_base items = unwrap_or (value_of BASE items) DEFAULT_BASE.now

-- what lies below the operands is meant always, or where the words say so
abbrev pub relabel_choice : (always : Bool) → List Item → Choice
relabel_choice always items = record {
  operands = operand_paths items;
  excluded = given_paths EXCLUDED items;
  recurse = always || (has_flag RECURSE items || has_flag RECURSE_TOO items);
  one_device = has_flag ONE_DEVICE items;
}

-- the records have link counts where the words say so
abbrev pub relabel_format : List Item → Format
relabel_format items = if has_flag LINK_COUNTS items then format.Two else format.One

abbrev pub relabel_options : List Item → Options
relabel_options items = record {
  force = has_flag FORCE items;
  dry = has_flag DRY items;
  digests = has_flag DIGESTS items;
  ignore_digests = has_flag IGNORE_DIGESTS items;
  verbose = has_flag VERBOSE items;
  warn_unmatched = has_flag WARN_UNMATCHED items;
  strict_links = has_flag STRICT_LINKS items;
  ignore_absent = has_flag IGNORE_ABSENT items;
  format = relabel_format items;
}

abbrev pub workers_of : List Item → ℕ
workers_of items = unwrap_or (number_given WORKERS MOST_WORKERS items) DEFAULT_WORKERS

abbrev pub relabel_words_by : (always : Bool) → List Item → RelabelWords
relabel_words_by always items = record {
  base = relabel_base items;
  choice = relabel_choice always items;
  options = relabel_options items;
  workers = workers_of items;
  soft_errors = has_flag SOFT_ERRORS items;
  stored = value_of STORED items;
  output = value_of OUTPUT items;
}

-- what changes would go nowhere
abbrev pub lacks_output : List Item → Bool
lacks_output items = not (has_flag DRY items || has_value OUTPUT items)

-- what is missing at the end of so many words: where there is no path, setfiles may lack its first
-- operand too
unfoldable pub relabel_end_wrong : List Item → ℕ → Option Usage
relabel_end_wrong items count =
    if not (has_operand items) then Some (usage count MissingOperand)
    else if lacks_output items then Some (usage count NoOutput)
    else None

abbrev pub relabel_words_in : (always : Bool) → List Item → ℕ → Result RelabelWords Usage
relabel_words_in always items count =
    unless_wrong (relabel_end_wrong items count) (relabel_words_by always items)

abbrev pub relabel_words_of : (always : Bool) → ℕ → Result (List Item) Usage
    → Result RelabelWords Usage
relabel_words_of always count (Ok items) = relabel_words_in always items count
relabel_words_of always count (Err wrong) = Err wrong

-- what words ask for, the first of which has this index, or the first that is wrong
abbrev pub relabel_words : Tool → (always : Bool) → ℕ → List (List ℕ) → Result RelabelWords Usage
relabel_words tool always first words =
    relabel_words_of always (length words + first) (items_read tool first words)

abbrev pub setfiles_words : ℕ → List (List ℕ) → Result RelabelWords Usage
setfiles_words = relabel_words setfiles true

abbrev pub restorecon_words : ℕ → List (List ℕ) → Result RelabelWords Usage
restorecon_words = relabel_words restorecon false
