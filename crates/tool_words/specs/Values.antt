-- The values of letters, and what is wrong with what the words say.
use Rattle.std.specs.Prelude.{◌≡◌, ℕ, nat_le, List, [], ◌∷◌, Option, Some, None, Result, Ok, Err}
use Rattle.std.specs.Prelude.{if◌then◌else◌}
use Rattle.std.specs.List.{filter_map}
use Rattle.label_base.specs.Answers.{fault_cause}
use Rattle.label_base.specs.Kind.{class_kind}
use Rattle.label_base.specs.Lines.{first_of}
use Rattle.label_base.specs.Number.{number_of}
use Rattle.file_paths.specs.Path.{Path, path_read}
use Rattle.label_base.specs.declared.fault.Fault.{Fault}
use Rattle.file_paths.specs.declared.path_fault.PathWhy.{PathWhy}
use Rattle.tool_words.specs.Items.{Item}
use Rattle.tool_words.specs.declared.item.Says.{Says}
use Rattle.tool_words.specs.declared.item.Says.TheVariants.{Flag, Given, Operand, Wrong}
use Rattle.tool_words.specs.declared.letters.Form.{Form}
use Rattle.tool_words.specs.declared.letters.Form.TheVariants.{Number, Path as OfPath, Name, Kind}
use Rattle.tool_words.specs.declared.usage.Usage.{Usage}
use Rattle.tool_words.specs.declared.usage.UsageWhy.{UsageWhy}
use Rattle.tool_words.specs.declared.usage.UsageWhy.TheVariants.{BadKind, BadNumber, BadPath}

-- a number that isn't past a limit
abbrev pub up_to : ℕ → Option ℕ → Option ℕ
up_to most None = None
up_to most (Some n) = if nat_le n most then Some n else None

-- the number up to a greatest one that a text names
abbrev pub number_named : ℕ → List ℕ → Option ℕ
number_named most text = up_to most (number_of text)

-- ---- what is wrong

-- this, where there is nothing
abbrev pub unless_some : {A : Type 0} → UsageWhy → Option A → Option UsageWhy
unless_some why (Some x) = None
unless_some why None = Some why

-- a path
abbrev pub path_wrong : Result Path PathWhy → Option UsageWhy
path_wrong (Ok path) = None
path_wrong (Err why) = Some BadPath

-- the name of a file
abbrev pub name_wrong : List ℕ → Option UsageWhy
name_wrong [] = Some BadPath
name_wrong (b ∷ bs) = None

-- a value of this form
abbrev pub form_wrong : Form → List ℕ → Option UsageWhy
form_wrong (Number most) text = unless_some BadNumber (number_named most text)
form_wrong OfPath text = path_wrong (path_read text)
form_wrong Name text = name_wrong text
form_wrong Kind text = unless_some BadKind (class_kind text)

abbrev pub says_wrong : Says → List ℕ → Option UsageWhy
says_wrong (Flag letter) text = None
says_wrong (Given v) text = form_wrong v.form text
says_wrong Operand text = path_wrong (path_read text)
says_wrong (Wrong why) text = Some why

abbrev pub at_index : ℕ → Option UsageWhy → Option Usage
at_index index None = None
at_index index (Some why) = Some (record { index = index; why = why })

-- what is wrong with one thing that the words say
abbrev pub item_wrong : Item → Option Usage
item_wrong item = at_index item.index (says_wrong item.says item.text)

-- the first that is wrong
abbrev pub first_wrong : List Item → Option Usage
first_wrong items = first_of (filter_map item_wrong items)

-- ---- calls that look for what is wrong

-- a call's cause is what is wrong; want of memory has none
abbrev pub ExplainsWrong : {W : Type 0} → Option W → Option W → Type 0
ExplainsWrong None wrong = Unit {0}
ExplainsWrong (Some why) wrong = wrong ≡ Some why

-- a call succeeds where nothing is wrong, and else tells what is
abbrev pub Judges : {A W : Type 0} → Result A (Fault W) → Option W → Type 0
Judges (Ok x) wrong = wrong ≡ None
Judges (Err e) wrong = ExplainsWrong (fault_cause e) wrong
