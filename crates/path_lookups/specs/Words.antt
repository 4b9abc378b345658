-- What the words of matchpathcon(8) ask for.
use Rattle.std.specs.Prelude.{ℕ, ◌+◌, List, length, Option, Some, None, Result, Ok, Err}
use Rattle.std.specs.Prelude.{if◌then◌else◌}
use Rattle.std.specs.Option.{unwrap_or}
use Rattle.tool_words.specs.Items.{Item}
use Rattle.tool_words.specs.Words.{has_flag, has_operand, items_read, kind_given, operand_paths}
use Rattle.tool_words.specs.Words.{unless_wrong, usage, value_of}
use Rattle.tool_words.specs.declared.usage.Usage.{Usage}
use Rattle.tool_words.specs.declared.usage.UsageWhy.TheVariants.{MissingOperand}
use Rattle.policy_files.specs.declared.names.TheConstants.{DEFAULT_BASE}
use Rattle.find_records.specs.declared.format.Format.{Format}
use Rattle.find_records.specs.declared.format.Format.TheVariants as format
use Rattle.path_lookups.specs.Letters.{matchpathcon}
use Rattle.path_lookups.specs.declared.letters.TheConstants.{ASKED, BARE, BASE, LINK_COUNTS, VERIFY}
use Rattle.path_lookups.specs.declared.words.LookupWords.{LookupWords}

-- the file of specifications
abbrev pub lookup_base : List Item → List ℕ
lookup_base items = unwrap_or (value_of BASE items) DEFAULT_BASE.now

-- the records have link counts where the words say so
abbrev pub lookup_format : List Item → Format
lookup_format items = if has_flag LINK_COUNTS items then format.Two else format.One

abbrev pub lookup_words_by : List Item → LookupWords
lookup_words_by items = record {
  base = lookup_base items;
  asked = kind_given ASKED items;
  bare = has_flag BARE items;
  verify = has_flag VERIFY items;
  paths = operand_paths items;
  format = lookup_format items;
}

-- what is missing at the end of so many words: a path
abbrev pub lookup_end_wrong : List Item → ℕ → Option Usage
lookup_end_wrong items count = if has_operand items then None else Some (usage count MissingOperand)

abbrev pub lookup_words_in : List Item → ℕ → Result LookupWords Usage
lookup_words_in items count = unless_wrong (lookup_end_wrong items count) (lookup_words_by items)

abbrev pub lookup_words_of : ℕ → Result (List Item) Usage → Result LookupWords Usage
lookup_words_of count (Ok items) = lookup_words_in items count
lookup_words_of count (Err wrong) = Err wrong

-- what words ask for, the first of which has this index, or the first that is wrong
abbrev pub lookup_words : ℕ → List (List ℕ) → Result LookupWords Usage
lookup_words first words =
    lookup_words_of (length words + first) (items_read matchpathcon first words)
