-- What the words of explain ask for.
use Rattle.std.specs.Prelude.{ℕ, ◌+◌, ◌-◌, ◌==◌, Bool, List, [], ◌++◌, length, get_or, Option, Some}
use Rattle.std.specs.Prelude.{None, Result, Ok, Err, if◌then◌else◌}
use Rattle.tool_words.specs.Items.{Item}
use Rattle.tool_words.specs.Words.{has_flag, has_operand, items_read, kind_given, operand_paths}
use Rattle.tool_words.specs.Words.{unless_wrong, usage, value_of}
use Rattle.tool_words.specs.declared.usage.Usage.{Usage}
use Rattle.tool_words.specs.declared.usage.UsageWhy.TheVariants.{MissingOperand}
use Rattle.policy_files.specs.declared.names.TheConstants.{DEFAULT_BASE}
use Rattle.path_reasons.specs.Letters.{explain}
use Rattle.path_reasons.specs.declared.letters.TheConstants.{ASKED, BASE, BRIEF}
use Rattle.path_reasons.specs.declared.words.ExplainWords.{ExplainWords}
use Rattle.path_reasons.specs.declared.words.TheConstants.{FILE_CONTEXTS, SLASH}

-- a name that ends with a slash is a folder's
abbrev pub is_folder : List ℕ → Bool
is_folder name = get_or name (length name - 1) 0 == SLASH

abbrev pub base_end : List ℕ → List ℕ
base_end name = if is_folder name then FILE_CONTEXTS.now else []

-- the file of specifications that a name means: itself, or file_contexts in the folder
abbrev pub base_named : List ℕ → List ℕ
base_named name = name ++ base_end name

abbrev pub base_given : Option (List ℕ) → List ℕ
base_given None = DEFAULT_BASE.now
base_given (Some name) = base_named name

abbrev pub explain_base : List Item → List ℕ
explain_base items = base_given (value_of BASE items)

abbrev pub explain_words_by : List Item → ExplainWords
explain_words_by items = record {
  base = explain_base items;
  asked = kind_given ASKED items;
  brief = has_flag BRIEF items;
  paths = operand_paths items;
}

-- what is missing at the end of so many words: a path
abbrev pub explain_end_wrong : List Item → ℕ → Option Usage
explain_end_wrong items count =
    if has_operand items then None else Some (usage count MissingOperand)

abbrev pub explain_words_in : List Item → ℕ → Result ExplainWords Usage
explain_words_in items count = unless_wrong (explain_end_wrong items count) (explain_words_by items)

abbrev pub explain_words_of : ℕ → Result (List Item) Usage → Result ExplainWords Usage
explain_words_of count (Ok items) = explain_words_in items count
explain_words_of count (Err wrong) = Err wrong

-- what words ask for, the first of which has this index, or the first that is wrong
abbrev pub explain_words : ℕ → List (List ℕ) → Result ExplainWords Usage
explain_words first words =
    explain_words_of (length words + first) (items_read explain first words)
