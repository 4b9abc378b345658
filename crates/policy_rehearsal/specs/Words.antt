-- What the words of rehearse ask for.
use Rattle.std.specs.Prelude.{◌≡◌, ℕ, ◌+◌, ◌<◌, ◌≤◌, ◌^◌, true, false, ◌&&◌, List, length}
use Rattle.std.specs.Prelude.{Option, Some, None, Result, if◌then◌else◌}
use Rattle.find_records.specs.declared.format.Format.{Format}
use Rattle.find_records.specs.declared.format.Format.TheVariants as format
use Rattle.relabel_core.specs.declared.options.Options.{Options}
use Rattle.tree_model.specs.declared.choice.Choice.{Choice}
use Rattle.tool_words.specs.Items.{Item}
use Rattle.tool_words.specs.Words.{given_paths, has_flag, has_operand, has_value, items_within}
use Rattle.tool_words.specs.Words.{operand_paths, unless_wrong, usage, values_of, where_read}
use Rattle.tool_words.specs.declared.usage.Usage.{Usage}
use Rattle.tool_words.specs.declared.usage.UsageWhy.TheVariants.{MissingOperand}
use Rattle.policy_rehearsal.specs.Letters.{rehearse}
use Rattle.policy_rehearsal.specs.declared.letters.TheConstants.{BASE, DIGESTS, EXCLUDED, FORCE}
use Rattle.policy_rehearsal.specs.declared.letters.TheConstants.{IGNORE_ABSENT, IGNORE_DIGESTS}
use Rattle.policy_rehearsal.specs.declared.letters.TheConstants.{LINK_COUNTS, MOST_POLICIES}
use Rattle.policy_rehearsal.specs.declared.letters.TheConstants.{ONE_DEVICE}
use Rattle.policy_rehearsal.specs.declared.words.RehearseWords.{RehearseWords}

-- all that lies below the operands is meant
abbrev pub rehearse_choice : List Item → Choice
rehearse_choice items = record {
  operands = operand_paths items;
  excluded = given_paths EXCLUDED items;
  recurse = true;
  one_device = has_flag ONE_DEVICE items;
}

abbrev pub rehearse_format : List Item → Format
rehearse_format items = if has_flag LINK_COUNTS items then format.Two else format.One

abbrev pub rehearse_options : List Item → Options
rehearse_options items = record {
  force = has_flag FORCE items;
  dry = false;
  digests = has_flag DIGESTS items;
  ignore_digests = has_flag IGNORE_DIGESTS items;
  verbose = false;
  warn_unmatched = false;
  strict_links = false;
  ignore_absent = has_flag IGNORE_ABSENT items;
  format = rehearse_format items;
}

abbrev pub rehearse_words_by : List Item → RehearseWords
rehearse_words_by items = record {
  bases = values_of BASE items;
  choice = rehearse_choice items;
  options = rehearse_options items;
}

-- what is missing at the end of so many words: a policy, or a path
abbrev pub rehearse_end_wrong : List Item → ℕ → Option Usage
rehearse_end_wrong items count =
    if has_value BASE items && has_operand items then None else Some (usage count MissingOperand)

abbrev pub rehearse_words_in : List Item → ℕ → Result RehearseWords Usage
rehearse_words_in items count = unless_wrong (rehearse_end_wrong items count)
    (rehearse_words_by items)

-- what words ask for, the first of which has this index, or the first that is wrong
abbrev pub rehearse_words : ℕ → List (List ℕ) → Result RehearseWords Usage
rehearse_words first words =
    where_read (items_within rehearse BASE MOST_POLICIES first words)
    (λ items. rehearse_words_in items (length words + first))

-- the words are few enough, and labels are changed
pub record AreFew (words : RehearseWords) : Type 0 where
  pub policies : length words.bases ≤ MOST_POLICIES
  pub operands : length words.choice.operands < 2 ^ 31
  pub wet : words.options.dry ≡ false
