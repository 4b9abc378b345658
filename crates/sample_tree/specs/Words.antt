-- What the words of sample ask for.
use Rattle.std.specs.Prelude.{ℕ, ◌+◌, List, [], length, Option, Some, None, Result, Ok, Err}
use Rattle.std.specs.Prelude.{if◌then◌else◌}
use Rattle.std.specs.Option.{unwrap_or}
use Rattle.tool_words.specs.Items.{Item}
use Rattle.tool_words.specs.Tool.{Tool}
use Rattle.tool_words.specs.Words.{has_value, items_read, number_given, unless_wrong, usage}
use Rattle.tool_words.specs.declared.letters.Form.TheVariants.{Number}
use Rattle.tool_words.specs.declared.letters.Others.TheVariants.{Refused}
use Rattle.tool_words.specs.declared.usage.Usage.{Usage}
use Rattle.tool_words.specs.declared.usage.UsageWhy.TheVariants.{BadNumber, MissingOperand}
use Rattle.sample_tree.specs.declared.words.SampleWords.{SampleWords}
use Rattle.sample_tree.specs.declared.words.TheConstants.{COUNT, MOST_FILES}

-- one operand, a number
abbrev pub sample : Tool
sample = record {
  letters = [];
  first = Some (record { letter = COUNT; form = Number MOST_FILES });
  others = Refused BadNumber;
}

abbrev pub sample_count : List Item → ℕ
sample_count items = unwrap_or (number_given COUNT MOST_FILES items) 0

-- what is missing at the end of so many words
abbrev pub sample_end_wrong : List Item → ℕ → Option Usage
sample_end_wrong items count =
    if has_value COUNT items then None else Some (usage count MissingOperand)

abbrev pub sample_words_by : List Item → SampleWords
sample_words_by items = record { count = sample_count items }

abbrev pub sample_words_in : List Item → ℕ → Result SampleWords Usage
sample_words_in items count = unless_wrong (sample_end_wrong items count) (sample_words_by items)

abbrev pub sample_words_of : ℕ → Result (List Item) Usage → Result SampleWords Usage
sample_words_of count (Ok items) = sample_words_in items count
sample_words_of count (Err wrong) = Err wrong

-- what words ask for, the first of which has this index, or the first that is wrong
abbrev pub sample_words : ℕ → List (List ℕ) → Result SampleWords Usage
sample_words first words = sample_words_of (length words + first) (items_read sample first words)
