-- What the words behind a tool's name say, one thing at a time, each with the index of the word
-- in which it stands, as it is computed; Grammar.antt has the grammar, and a law ties the two.
use Rattle.std.specs.Prelude.{ℕ, ◌+◌, ◌-◌, Bool, true, false, ◌==◌, List, [], ◌∷◌, ◌++◌, drop}
use Rattle.std.specs.Prelude.{Option, Some, None, if◌then◌else◌}
use Rattle.label_base.specs.Text.{same_bytes}
use Rattle.tool_words.specs.Tool.{Tool, takes_of}
use Rattle.tool_words.specs.declared.cutting.WordsAhead.{WordsAhead}
use Rattle.tool_words.specs.declared.cutting.Expects.{Expects}
use Rattle.tool_words.specs.declared.cutting.Expects.TheVariants.{Any, ValueOf, Operands}
use Rattle.tool_words.specs.declared.cutting.TheConstants.{DASH, END}
use Rattle.tool_words.specs.declared.item.Says.{Says}
use Rattle.tool_words.specs.declared.item.Says.TheVariants.{Flag, Given, Operand, Wrong}
use Rattle.tool_words.specs.declared.letters.Form.{Form}
use Rattle.tool_words.specs.declared.letters.Others.{Others}
use Rattle.tool_words.specs.declared.letters.Others.TheVariants.{Paths, Refused}
use Rattle.tool_words.specs.declared.letters.Takes.{Takes}
use Rattle.tool_words.specs.declared.letters.Takes.TheVariants.{Flag as Alone, Value}
use Rattle.tool_words.specs.declared.letters.Valued.{Valued}
use Rattle.tool_words.specs.declared.usage.UsageWhy.{UsageWhy}
use Rattle.tool_words.specs.declared.usage.UsageWhy.TheVariants.{MissingValue, UnknownOption}

pub record Item : Type 0 where
  pub says : Says
  pub index : ℕ
  pub text : List ℕ

abbrev pub item : Says → ℕ → List ℕ → Item
item says index text = record { says = says; index = index; text = text }

abbrev pub flag : ℕ → ℕ → Item
flag letter index = item (Flag letter) index []

abbrev pub wrong : UsageWhy → ℕ → Item
wrong why index = item (Wrong why) index []

-- what some letters say, and what they expect of the next word
abbrev pub Letters : Type 0
Letters = List Item × Expects

abbrev pub valued : ℕ → Form → Valued
valued letter form = record { letter = letter; form = form }

-- a letter with a value takes all that is behind it, and the next word where that is nothing
abbrev pub valued_says : ℕ → Valued → List ℕ → Letters
valued_says index v [] = ([], ValueOf v)
valued_says index v (b ∷ bs) = (item (Given v) index (b ∷ bs) ∷ [], Any)

-- a letter, what it takes, the letters behind it, and what these say by themselves
abbrev pub with_letter : ℕ → ℕ → Option Takes → List ℕ → Letters → Letters
with_letter index letter (Some Alone) rest more = (flag letter index ∷ more.0, more.1)
with_letter index letter (Some (Value form)) rest more = valued_says index (valued letter form) rest
with_letter index letter None rest more = (wrong UnknownOption index ∷ [], Any)

-- what the letters of a word say
unfoldable pub letters_say : Tool → ℕ → List ℕ → Letters
letters_say tool index [] = ([], Any)
letters_say tool index (b ∷ bs) =
    with_letter index b (takes_of tool b) bs (letters_say tool index bs)

-- two bytes or more, the first a dash
abbrev pub is_cluster : List ℕ → Bool
is_cluster [] = false
is_cluster (b ∷ []) = false
is_cluster (b ∷ c ∷ bs) = b == DASH

abbrev pub ahead : Expects → Bool → WordsAhead
ahead expects first = record { expects = expects; first = first }

-- what a word says, and what is ahead of the next one
abbrev pub Taken : Type 0
Taken = List Item × WordsAhead

-- what an operand says, the first one or a later
abbrev pub other_says : Others → Says
other_says Paths = Operand
other_says (Refused why) = Wrong why

abbrev pub first_says : Option Valued → Others → Says
first_says (Some v) others = Given v
first_says None others = other_says others

abbrev pub operand_says : Tool → Bool → Says
operand_says tool true = first_says tool.first tool.others
operand_says tool false = other_says tool.others

abbrev pub operand_taken : Tool → Expects → Bool → ℕ → List ℕ → Taken
operand_taken tool expects first index word =
    (item (operand_says tool first) index word ∷ [], ahead expects false)

abbrev pub letters_taken : Bool → Letters → Taken
letters_taken first letters = (letters.0, ahead letters.1 first)

-- a word that may be one of options: the word -- ends them
unfoldable pub any_taken : Tool → Bool → ℕ → List ℕ → Taken
any_taken tool first index word =
    if same_bytes word END.now then ([], ahead Operands first)
    else if is_cluster word then letters_taken first (letters_say tool index (drop 1 word))
    else operand_taken tool Any first index word

abbrev pub word_taken : Tool → Expects → Bool → ℕ → List ℕ → Taken
word_taken tool (ValueOf v) first index word =
    (item (Given v) index word ∷ [], ahead Any first)
word_taken tool Operands first index word = operand_taken tool Operands first index word
word_taken tool Any first index word = any_taken tool first index word

abbrev pub taken : Tool → WordsAhead → ℕ → List ℕ → Taken
taken tool a index word = word_taken tool a.expects a.first index word

-- a letter at the words' end that still expects its value: its word, the last one, is wrong
abbrev pub unended : Expects → ℕ → List Item
unended (ValueOf v) index = wrong MissingValue (index - 1) ∷ []
unended expects index = []

-- what the words from an index on say
unfoldable pub items_from : Tool → WordsAhead → ℕ → List (List ℕ) → List Item
items_from tool a index [] = unended a.expects index
items_from tool a index (word ∷ words) =
    (taken tool a index word).0 ++ items_from tool (taken tool a index word).1 (index + 1) words

-- what the words behind a tool's name say, the first of which has this index
abbrev pub items_of : Tool → ℕ → List (List ℕ) → List Item
items_of tool index words = items_from tool (ahead Any true) index words
