-- What the words of genhomedircon ask for.
use Rattle.std.specs.Prelude.{ℕ, ◌+◌, List, length, Option, Some, None, Result, Ok, Err}
use Rattle.tool_words.specs.Items.{Item}
use Rattle.tool_words.specs.Words.{items_read, usage, value_of, where_read}
use Rattle.tool_words.specs.declared.usage.Usage.{Usage}
use Rattle.tool_words.specs.declared.usage.UsageWhy.TheVariants.{MissingOperand, NoOutput}
use Rattle.home_contexts.specs.Letters.{genhomedircon}
use Rattle.home_contexts.specs.declared.asked.HomesWords.{HomesWords}
use Rattle.home_contexts.specs.declared.letters.TheConstants.{OUTPUT, TEMPLATE, USERS}

-- the files that are named, or what is missing at the end of so many words: a file that is read
-- before the one that is written
abbrev pub named_by : ℕ → (template users output : Option (List ℕ)) → Result HomesWords Usage
named_by count (Some template) (Some users) (Some output) =
    Ok (record { template = template; users = users; output = output })
named_by count (Some template) (Some users) None = Err (usage count NoOutput)
named_by count template users output = Err (usage count MissingOperand)

abbrev pub homes_words_in : List Item → ℕ → Result HomesWords Usage
homes_words_in items count =
    named_by count (value_of TEMPLATE items) (value_of USERS items) (value_of OUTPUT items)

-- what words ask for, the first of which has this index, or the first that is wrong
abbrev pub homes_words : ℕ → List (List ℕ) → Result HomesWords Usage
homes_words first words =
    where_read (items_read genhomedircon first words)
    (λ items. homes_words_in items (length words + first))
